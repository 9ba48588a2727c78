use Rattle.std.proofs.Common.{ap, arith}
use Rattle.table_model.specs.Address.{Address}
use Rattle.fib_addr.proofs.Fronts.{bits_of_octets}
use Rattle.fib_addr.proofs.addr.Addr.from_octets.Goals as goal

pub returns : goal.returns
returns c =
    let octets = c.args.octets.now in
    ap (λ x. let a : Address = record { family = c.args.family; bits = x } in a) (bits_of_octets octets _ _ (λ i. omega (arith, c.type_inv.octets i)) c.requires c.read_uint128.ensures)
