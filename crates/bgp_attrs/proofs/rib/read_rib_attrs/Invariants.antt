use Rattle.std.proofs.Common.{length}
use Rattle.octet_fields.specs.Field.{until_end}
use Rattle.wire_model.specs.declared.place.Place.TheVariants.{Rib}
use Rattle.wire_model.specs.Attribute.{attribute_at, nothing_found}
use Rattle.bgp_attrs.specs.Views.{rib_found_as}
use Rattle.octet_fields.proofs.Steps.{Left}
use Rattle.bgp_attrs.proofs.rib.read_rib_attrs.Given as goal

abbrev pub invariant-loop-rest : goal.invariant-loop-rest
invariant-loop-rest l = Left (attribute_at (Rib l.family)) (rib_found_as l.family l.found) l.rest (until_end (attribute_at (Rib l.family)) nothing_found l.bytes)

abbrev pub decreases-loop-rest : goal.decreases-loop-rest
decreases-loop-rest l = length l.rest
