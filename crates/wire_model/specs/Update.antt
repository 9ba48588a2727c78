-- BGP4MP and BGP4MP_ET (RFC 6396, 4.4 and 3; RFC 8050, 3), UPDATE (RFC 4271, 4.3; RFC 7911, 3).
use Rattle.std.specs.Prelude.{ℕ, List, [], ◌∷◌, ◌++◌, length, map, Option, Some, None, Result, Ok, Bool, true, false, not, nat_lt, ◌==◌, ◌||◌, ◌&&◌, if◌then◌else◌}
use Rattle.table_model.specs.declared.family.Family.{Family}
use Rattle.table_model.specs.declared.family.Family.TheVariants.{V4}
use Rattle.table_model.specs.Address.{Address}
use Rattle.route_model.specs.Events.{Peer, Via, Event, Withdraw, Down}
use Rattle.octet_fields.specs.Field.{refuse, octet_at, octets_at, number_at, all_read, ◌>>=◌}
use Rattle.wire_model.specs.declared.place.Place.TheVariants.{Update}
use Rattle.wire_model.specs.declared.session.Session.{Session}
use Rattle.wire_model.specs.declared.session.Session.TheVariants.{StateChange, Message}
use Rattle.wire_model.specs.declared.rule.Rule.{Rule}
use Rattle.wire_model.specs.declared.rule.Rule.TheVariants.{SessionForm, MessageLength, UpdateLengths}
use Rattle.wire_model.specs.Wire.{Nlri, address_at, nlris, family_of}
use Rattle.wire_model.specs.Path.{Path, as_size}
use Rattle.wire_model.specs.Attribute.{ReachAttr, Unreached, Listed, attributes}
use Rattle.wire_model.specs.Rib.{event_of}

-- ---- UPDATE

-- what is said: events, and whether the message was treated as a withdrawal (RFC 7606, 2)
pub record Said : Type 0 where
  pub events : List Event
  pub treated : Bool

-- nothing was treated
abbrev pub said : List Event → Said
said events = record { events = events; treated = false }

-- the path source of a peer's route
abbrev pub via_of : Peer → Nlri → Via
via_of peer n = record { peer = peer; id = n.id }

abbrev pub withdrawn : Peer → List Nlri → List Event
withdrawn peer gone = map (λ (n : Nlri). Withdraw (via_of peer n) n.prefix) gone

abbrev pub routes : Peer → Path → Option Address → List Nlri → List Event
routes peer path hop nlri = map (λ (n : Nlri). event_of path hop (via_of peer n) n.prefix) nlri

-- what the two MP attributes say (RFC 4760, 3 and 4)
abbrev pub unreach_events : Peer → Option Unreached → List Event
unreach_events peer None = []
unreach_events peer (Some unreach) = withdrawn peer unreach.nlri

-- of a message that is treated they are withdrawn
abbrev pub reach_events : Peer → Listed → Option ReachAttr → List Event
reach_events peer list None = []
reach_events peer list (Some reach) = routes peer list.path (if list.bad then None else Some reach.hop) reach.nlri

-- Withdrawn Routes Length, withdrawn IPv4 routes, Total Path Attribute Length, attributes, IPv4 NLRI to the end. Its events: the withdrawn routes, MP_UNREACH_NLRI's, the NLRI with NEXT_HOP, MP_REACH_NLRI's with its own. If the list of attributes is bad the message is treated as a withdrawal: a bad list has no next hop.
unfoldable pub update : Bool → Bool → Peer → List ℕ → Result Said Rule
update wide ids peer octets = do
  gone_len ← number_at UpdateLengths 2 octets
  gone_area ← octets_at UpdateLengths gone_len.0 gone_len.1
  gone ← nlris UpdateLengths ids V4 gone_area.0
  list_len ← number_at UpdateLengths 2 gone_area.1
  area ← octets_at UpdateLengths list_len.0 list_len.1
  list ← attributes (Update wide ids) area.0
  nlri ← nlris UpdateLengths ids V4 area.1
  Ok (record { events = withdrawn peer gone ++ unreach_events peer list.unreach ++ routes peer list.path list.hop nlri ++ reach_events peer list list.reach; treated = list.bad })

-- Marker, Length, Type (RFC 4271, 4.1): at least 19 octets, and as many as the length says. Type 2 is an UPDATE; others say nothing.
unfoldable pub message : Bool → Bool → Peer → List ℕ → Result Said Rule
message wide ids peer octets = do
  long ← refuse MessageLength (nat_lt (length octets) 19)
  marker ← octets_at MessageLength 16 octets
  len ← number_at MessageLength 2 marker.1
  whole ← refuse MessageLength (not (len.0 == length octets))
  kind ← octet_at MessageLength len.1
  if kind.0 == 2 then update wide ids peer kind.1 else Ok (said [])

-- ---- state changes

-- Established (6) is left: the session is lost (RFC 6396, 4.4.1; RFC 4271, 8.2.2)
abbrev pub is_lost : ℕ → ℕ → Bool
is_lost old new = old == 6 && not (new == 6)

-- Old State, New State, and nothing after them
unfoldable pub state_change : Peer → List ℕ → Result Said Rule
state_change peer octets = do
  old ← number_at SessionForm 2 octets
  new ← number_at SessionForm 2 old.1
  all_read SessionForm (said (if is_lost old.0 new.0 then Down peer ∷ [] else []), new.1)

-- ---- records

-- What the records of a subtype hold: STATE_CHANGE (0), MESSAGE (1), MESSAGE_AS4 (4), STATE_CHANGE_AS4 (5), MESSAGE_LOCAL (6), MESSAGE_AS4_LOCAL (7) (RFC 6396, 4.4.1 to 4.4.6); with path identifiers MESSAGE_ADDPATH (8), MESSAGE_AS4_ADDPATH (9), MESSAGE_LOCAL_ADDPATH (10), MESSAGE_AS4_LOCAL_ADDPATH (11) (RFC 8050, 3). Others are skipped.
abbrev pub session_of : ℕ → Option Session
session_of sub =
    if sub == 0 then Some (StateChange false) else (
    if sub == 1 || sub == 6 then Some (Message false false) else (
    if sub == 4 || sub == 7 then Some (Message true false) else (
    if sub == 5 then Some (StateChange true) else (
    if sub == 8 || sub == 10 then Some (Message false true) else (
    if sub == 9 || sub == 11 then Some (Message true true) else None)))))

-- whether its AS numbers have four octets
abbrev pub has_wide_as : Session → Bool
has_wide_as (StateChange wide) = wide
has_wide_as (Message wide ids) = wide

abbrev pub session_says : Session → Peer → List ℕ → Result Said Rule
session_says (StateChange wide) peer octets = state_change peer octets
session_says (Message wide ids) peer octets = message wide ids peer octets

-- the peer's address and the local one, then a state change or a message; another family is skipped
unfoldable pub session_behind : Session → ℕ → Option Family → List ℕ → Result (Option Said) Rule
session_behind session asn None octets = Ok None
session_behind session asn (Some family) octets = do
  addr ← address_at SessionForm family octets
  local ← address_at SessionForm family addr.1
  words ← session_says session (record { addr = addr.0; asn = asn }) local.1
  Ok (Some words)

-- microseconds in an ET record, Peer AS, Local AS, Interface Index, Address Family, then the addresses and what follows them
unfoldable pub session_in : Option Session → Bool → List ℕ → Result (Option Said) Rule
session_in None micro body = Ok None
session_in (Some session) micro body = do
  time ← octets_at SessionForm (if micro then 4 else 0) body
  asn ← number_at SessionForm (as_size (has_wide_as session)) time.1
  local ← octets_at SessionForm (as_size (has_wide_as session)) asn.1
  interface ← octets_at SessionForm 2 local.1
  afi ← number_at SessionForm 2 interface.1
  session_behind session asn.0 (family_of afi.0) afi.1

-- what a record of this subtype says, with microseconds or without; none if it is skipped
unfoldable pub bgp4mp : ℕ → Bool → List ℕ → Result (Option Said) Rule
bgp4mp sub micro body = session_in (session_of sub) micro body
