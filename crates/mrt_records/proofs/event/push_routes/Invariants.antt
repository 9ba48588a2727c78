use Rattle.std.proofs.Common.{◌≡◌, ◌++◌, List, length}
use Rattle.std.specs.Prelude.{map, option_map}
use Rattle.octet_fields.specs.Field.{one_more}
use Rattle.wire_model.specs.Wire.{Nlri, nlri_at, nlris}
use Rattle.fib_addr.specs.Views.{addr_as}
use Rattle.fib_prefix.specs.Views.{peer_as, event_as}
use Rattle.wire_model.specs.Update.{routes}
use Rattle.mrt_records.specs.UpdateViews.{said_path}
use Rattle.octet_fields.proofs.Steps.{Left}
use Rattle.mrt_records.proofs.event.push_routes.Given as goal

abbrev pub invariant-loop-rest : goal.invariant-loop-rest
invariant-loop-rest l = (front : List Nlri) × Left (one_more (nlri_at l.area.cut l.area.ids l.area.family)) front l.rest (nlris l.area.cut l.area.ids l.area.family l.area.octets.now) × (map event_as l.events.items ≡ map event_as l.fn.events.items ++ routes (peer_as l.saying.peer) (said_path l.saying) (option_map addr_as l.saying.hop) front)

abbrev pub decreases-loop-rest : goal.decreases-loop-rest
decreases-loop-rest l = length l.rest
