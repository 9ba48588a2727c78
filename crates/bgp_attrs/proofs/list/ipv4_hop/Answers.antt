use Rattle.std.proofs.Common.{arith}
use Rattle.bgp_attrs.proofs.Four.{next_hop_of_four}
use Rattle.bgp_attrs.proofs.list.ipv4_hop.Goals as goal

pub returns : goal.returns
returns c = next_hop_of_four c.args.value.now _ (λ i. omega (arith, c.type_inv.value i)) c.if-value-ne4.false c.read_u32.ensures
