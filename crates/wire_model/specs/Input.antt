-- A whole input: records one after another, each read after those before it.
use Rattle.std.specs.Prelude.{ℕ, ◌+◌, List, [], ◌++◌, Option, Some, None, Result, Ok, Err, Bool, true, false, ◌==◌, ◌||◌, ◌&&◌, if◌then◌else◌}
use Rattle.table_model.specs.declared.family.Family.{Family}
use Rattle.table_model.specs.declared.family.Family.TheVariants.{V4, V6}
use Rattle.route_model.specs.Events.{Peer, Event}
use Rattle.octet_fields.specs.Field.{◌>>=◌, until_end}
use Rattle.wire_model.specs.declared.rule.Rule.{Rule}
use Rattle.wire_model.specs.declared.rule.Rule.TheVariants.{NoPeerTable}
use Rattle.wire_model.specs.Record.{Record, record_at}
use Rattle.wire_model.specs.Rib.{peer_table, rib}
use Rattle.wire_model.specs.Update.{Said, said, bgp4mp}

-- what was read of an input: the latest peer table, the events, how many records, how many of them were skipped, and how many messages were treated as withdrawals
pub record Progress : Type 0 where
  pub peers : Option (List Peer)
  pub events : List Event
  pub records : ℕ
  pub skipped : ℕ
  pub treated : ℕ

abbrev pub start : Progress
start = record { peers = None; events = []; records = 0; skipped = 0; treated = 0 }

-- a RIB record after the latest peer table
abbrev pub rib_behind : Option (List Peer) → Bool → Family → List ℕ → Result (List Event) Rule
rib_behind (Some peers) ids family body = rib peers ids family body
rib_behind None ids family body = Err NoPeerTable

-- TABLE_DUMP_V2 (type 13) of this subtype (RFC 6396, 4.3)
abbrev pub is_dump : ℕ → Record → Bool
is_dump subtype r = r.kind == 13 && r.subtype == subtype

-- BGP4MP (type 16) or BGP4MP_ET (17) (RFC 6396, 4.4 and 3)
abbrev pub is_session : Record → Bool
is_session r = r.kind == 16 || r.kind == 17

-- What the dump's records of a subtype hold: RIB_IPV4_UNICAST (2), RIB_IPV6_UNICAST (4) (RFC 6396, 4.3.2), RIB_IPV4_UNICAST_ADDPATH (8), RIB_IPV6_UNICAST_ADDPATH (10) (RFC 8050, 4): whether their entries have path identifiers, and their family.
abbrev pub rib_of : Record → Option (Bool × Family)
rib_of r =
    if is_dump 2 r then Some (false, V4) else (
    if is_dump 4 r then Some (false, V6) else (
    if is_dump 8 r then Some (true, V4) else (
    if is_dump 10 r then Some (true, V6) else None)))

-- a record that is no peer table: a RIB record, one of a session, or one that is skipped
abbrev pub said_behind : Option (List Peer) → Record → Option (Bool × Family) → Result (Option Said) Rule
said_behind peers r (Some (ids, family)) = rib_behind peers ids family r.body >>= λ events. Ok (Some (said events))
said_behind peers r None = if is_session r then bgp4mp r.subtype (r.kind == 17) r.body else Ok None

-- The peer table after a record, and what the record says, or none if it is skipped.
unfoldable pub record_in : Option (List Peer) → Record → Result (Option (List Peer) × Option Said) Rule
record_in peers r =
    if is_dump 1 r then (peer_table r.body >>= λ table. Ok (Some table, Some (said [])))
    else (said_behind peers r (rib_of r) >>= λ words. Ok (peers, words))

abbrev pub counted : Progress → Option (List Peer) × Option Said → Progress
counted p (peers, Some words) = record { peers = peers; events = p.events ++ words.events; records = p.records + 1; skipped = p.skipped; treated = p.treated + (if words.treated then 1 else 0) }
counted p (peers, None) = record { peers = peers; events = p.events; records = p.records + 1; skipped = p.skipped + 1; treated = p.treated }

-- where reading stops: after these records, since the next one breaks a rule
pub record Stopped : Type 0 where
  pub read : Progress
  pub rule : Rule

abbrev pub or_stop : {A : Type 0} → Progress → Result A Rule → Result A Stopped
or_stop read (Ok x) = Ok x
or_stop read (Err rule) = Err (record { read = read; rule = rule })

-- one record more
unfoldable pub read_record : Progress → List ℕ → Result (Progress × List ℕ) Stopped
read_record read octets = or_stop read (record_at octets >>= λ r. record_in read.peers r.0 >>= λ told. Ok (counted read told, r.1))

-- What a whole input says; or what the records before the first that breaks a rule say, and the rule of its first field that does.
unfoldable pub input : List ℕ → Result Progress Stopped
input octets = until_end read_record start octets
