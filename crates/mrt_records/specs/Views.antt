-- What a clause sees of a peer table and of what a record says.
use Rattle.std.specs.Prelude.{ℕ, List, map, Option, Some, None, option_map, Result, Ok, Bool, true, ◌==◌, if◌then◌else◌}
use Rattle.std.specs.declared.vec.Vec.{Vec}
use Rattle.table_model.specs.declared.family.Family.{Family}
use Rattle.octet_fields.specs.Field.{◌>>=◌}
use Rattle.route_model.specs.Events.{Peer, Event}
use Rattle.fib_prefix.specs.Views.{peer_as, event_as}
use Rattle.fib_prefix.specs.declared.event.Event as code_event
use Rattle.wire_model.specs.declared.rule.Rule.{Rule}
use Rattle.wire_model.specs.Record.{Record}
use Rattle.wire_model.specs.Update.{Said, said, bgp4mp}
use Rattle.wire_model.specs.Input.{rib_of, rib_behind, is_session, said_behind}
use Rattle.mrt_records.specs.declared.peer_table.PeerTable.{PeerTable}
use Rattle.mrt_records.specs.declared.record.RecordTold.{RecordTold}
use Rattle.mrt_records.specs.declared.record.RecordTold.TheVariants.{Skipped, Events, Treated}

-- its peers, by their index
abbrev pub peers_of : PeerTable → List Peer
peers_of table = map peer_as table.peers.items

-- the peers of a table, if there is one
abbrev pub peers_in : Option PeerTable → Option (List Peer)
peers_in table = option_map peers_of table

-- the events of a message, and whether it was treated
abbrev pub said_as : {A : Type 0} → Vec code_event.Event A × Bool → Said
said_as (events, treated) = record { events = map event_as events.items; treated = treated }

-- what a RIB record says after these peers
abbrev pub rib_says : Option (List Peer) → Bool → Family → List ℕ → Result (Option Said) Rule
rib_says peers ids family body = rib_behind peers ids family body >>= λ events. Ok (Some (said events))

-- what a record of a session says, or nothing if it is skipped
abbrev pub session_record_says : Record → Result (Option Said) Rule
session_record_says r = if is_session r then bgp4mp r.subtype (r.kind == 17) r.body else Ok None

-- what a record that is no peer table says after these peers
abbrev pub behind_peers : Option (List Peer) → Record → Result (Option Said) Rule
behind_peers peers r = said_behind peers r (rib_of r)

-- what a record says, by what it said and its events
abbrev pub told_as : RecordTold → List Event → Option Said
told_as Skipped events = None
told_as Events events = Some (said events)
told_as Treated events = Some (record { events = events; treated = true })

-- the peer table after a record, and what the record says
abbrev pub record_as : Option PeerTable → RecordTold → List Event → Option (List Peer) × Option Said
record_as table told events = (peers_in table, told_as told events)
