use Rattle.std.proofs.Common.{ap}
use Rattle.table_model.specs.Address.{Prefix}
use Rattle.fib_addr.proofs.Parts.{prefix_is}
use Rattle.fib_addr.proofs.prefix.Prefix.new.Goals as goal

pub returns : goal.returns
returns c =
    let a = c.args.addr.now in
    ap (λ x. let p : Prefix = record { family = a.family; bits = x } in p) (prefix_is a.family a.bits c.args.len c.width.result c.clear_low-bits.result c.width.ensures c.requires c.clear_low-bits.ensures)
