use Rattle.bgp_attrs.proofs.Fields.{no_octets}
use Rattle.bgp_attrs.proofs.wire_prefix.path_id.Goals as goal

pub returns-else-ids-clause-value : goal.returns-else-ids-clause-value
returns-else-ids-clause-value g c = rw c.if-ids.false (no_octets _ _)
