use Rattle.std.proofs.Common.{length, List}
use Rattle.octet_fields.specs.Field.{one_more}
use Rattle.wire_model.specs.Wire.{Nlri, nlri_at, nlris}
use Rattle.octet_fields.proofs.Steps.{Left}
use Rattle.bgp_attrs.proofs.prefix_list.check_nlri.Given as goal

abbrev pub invariant-loop-rest : goal.invariant-loop-rest
invariant-loop-rest l = (front : List Nlri) × Left (one_more (nlri_at l.cut l.ids l.family)) front l.rest (nlris l.cut l.ids l.family l.bytes)

abbrev pub decreases-loop-rest : goal.decreases-loop-rest
decreases-loop-rest l = length l.rest
