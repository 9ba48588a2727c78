use Rattle.std.proofs.Common.{ap}
use Rattle.table_model.specs.Address.{Address}
use Rattle.table_model.specs.Width.{width}
use Rattle.fib_addr.proofs.Parts.{bits_filled}
use Rattle.fib_addr.proofs.prefix.Prefix.first_addr.Goals as goal

pub returns : goal.returns
returns c =
    let p = c.args.self.now in
    ap (λ x. let a : Address = record { family = p.family; bits = x } in a) (bits_filled (width p.family) p.len p.bits p.fits p.cleared)
