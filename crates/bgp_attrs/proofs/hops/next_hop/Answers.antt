use Rattle.std.proofs.Common.{◌∙◌, arith}
use Rattle.bgp_attrs.proofs.Four.{hop_of_four}
use Rattle.bgp_attrs.proofs.hops.next_hop.Goals as goal

pub returns-then-octets-eq4 : goal.returns-then-octets-eq4
returns-then-octets-eq4 c = c.v4.ensures ∙ hop_of_four c.args.octets.now _ (λ i. omega (arith, c.type_inv.octets i)) c.if-octets-eq4.true c.read_u32.ensures
