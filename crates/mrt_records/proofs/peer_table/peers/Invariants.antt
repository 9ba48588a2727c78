use Rattle.std.proofs.Common.{◌≡◌, ◌-◌, []}
use Rattle.octet_fields.specs.Field.{times, one_more}
use Rattle.std.specs.Prelude.{map}
use Rattle.fib_prefix.specs.Views.{peer_as}
use Rattle.wire_model.specs.Rib.{peer_at}
use Rattle.mrt_records.proofs.peer_table.peers.Given as goal

abbrev pub invariant-loop : goal.invariant-loop
invariant-loop l = times (one_more peer_at) (l.count - l.counter) (map peer_as l.peers.items) l.rest ≡ times (one_more peer_at) l.count [] l.bytes
