use Rattle.std.proofs.Common.{◌≡◌, ◌-◌, ◌++◌, [], List}
use Rattle.octet_fields.specs.Field.{times, one_more}
use Rattle.std.specs.Prelude.{map}
use Rattle.fib_addr.specs.Views.{prefix_as}
use Rattle.fib_prefix.specs.Views.{peer_as, event_as}
use Rattle.route_model.specs.Events.{Event}
use Rattle.wire_model.specs.Rib.{rib_entry_at}
use Rattle.mrt_records.proofs.rib.push_entries.Given as goal

abbrev pub invariant-loop : goal.invariant-loop
invariant-loop l = (front : List Event) × (times (one_more (rib_entry_at (map peer_as l.peers) l.ids l.family (prefix_as l.prefix))) (l.count - l.counter) front l.rest ≡ times (one_more (rib_entry_at (map peer_as l.peers) l.ids l.family (prefix_as l.prefix))) l.count [] l.bytes) × (map event_as l.events.items ≡ map event_as l.fn.events.items ++ front)
