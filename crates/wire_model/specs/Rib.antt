-- TABLE_DUMP_V2 (RFC 6396, 4.3; RFC 8050, 4): peer tables and unicast RIB records.
use Rattle.std.specs.Prelude.{ℕ, Bool, List, [], Option, Some, None, option_map, Result, Ok, Err, bit_and, ◌==◌, if◌then◌else◌, slice_get}
use Rattle.std.specs.Option.{option_or}
use Rattle.table_model.specs.declared.family.Family.{Family}
use Rattle.table_model.specs.declared.family.Family.TheVariants.{V4, V6}
use Rattle.table_model.specs.Address.{Address, Prefix}
use Rattle.route_model.specs.Events.{Peer, Via, Event, Announce, Withdraw}
use Rattle.octet_fields.specs.Field.{octet_at, octets_at, number_at, all_read, one_more, times, ◌>>=◌}
use Rattle.wire_model.specs.declared.place.Place.TheVariants.{Rib}
use Rattle.wire_model.specs.declared.rule.Rule.{Rule}
use Rattle.wire_model.specs.declared.rule.Rule.TheVariants.{PeerTableForm, PeerIndex, RibForm}
use Rattle.wire_model.specs.Wire.{address_at, prefix_at, id_size}
use Rattle.wire_model.specs.Path.{Path}
use Rattle.wire_model.specs.Attribute.{ReachAttr, Listed, attributes}

-- ---- PEER_INDEX_TABLE (4.3.1)

-- Peer Type, BGP ID, address, AS. If the type's lowest bit (I, value 1) is set the address is IPv6; if the one above it (A, value 2) is set the AS has four octets.
unfoldable pub peer_at : List ℕ → Result (Peer × List ℕ) Rule
peer_at octets = do
  kind ← octet_at PeerTableForm octets
  id ← octets_at PeerTableForm 4 kind.1
  addr ← address_at PeerTableForm (if bit_and kind.0 1 == 0 then V4 else V6) id.1
  asn ← number_at PeerTableForm (if bit_and kind.0 2 == 0 then 2 else 4) addr.1
  Ok (record { addr = addr.0; asn = asn.0 }, asn.1)

-- Collector BGP ID, View Name Length, View Name, Peer Count, peers, and nothing after them
unfoldable pub peer_table : List ℕ → Result (List Peer) Rule
peer_table body = do
  id ← octets_at PeerTableForm 4 body
  len ← number_at PeerTableForm 2 id.1
  name ← octets_at PeerTableForm len.0 len.1
  count ← number_at PeerTableForm 2 name.1
  peers ← times (one_more peer_at) count.0 [] count.1
  all_read PeerTableForm peers

-- ---- RIB_IPV4_UNICAST and RIB_IPV6_UNICAST (4.3.2), with path identifiers too (RFC 8050, 4)

-- NEXT_HOP before MP_REACH_NLRI's next hop in an IPv4 record, after it in an IPv6 record
abbrev pub entry_hop : Family → Listed → Option Address
entry_hop V4 list = option_or list.hop (option_map (λ (r : ReachAttr). r.hop) list.reach)
entry_hop V6 list = option_or (option_map (λ (r : ReachAttr). r.hop) list.reach) list.hop

-- a route; without a next hop it is withdrawn
abbrev pub event_of : Path → Option Address → Via → Prefix → Event
event_of path (Some hop) via prefix = Announce via prefix path.length hop path.origin
event_of path None via prefix = Withdraw via prefix

-- the peer at an index
abbrev pub indexed : Option Peer → Result Peer Rule
indexed (Some peer) = Ok peer
indexed None = Err PeerIndex

-- Peer Index, Originated Time, Path Identifier if the record's entries have one, Attribute Length, attributes (4.3.4; RFC 8050, 4)
unfoldable pub rib_entry_at : List Peer → Bool → Family → Prefix → List ℕ → Result (Event × List ℕ) Rule
rib_entry_at peers ids family prefix octets = do
  index ← number_at RibForm 2 octets
  peer ← indexed (slice_get peers index.0)
  time ← octets_at RibForm 4 index.1
  id ← number_at RibForm (id_size ids) time.1
  len ← number_at RibForm 2 id.1
  area ← octets_at RibForm len.0 len.1
  list ← attributes (Rib family) area.0
  Ok (event_of list.path (entry_hop family list) (record { peer = peer; id = id.0 }) prefix, area.1)

-- Sequence, prefix, Entry Count, entries, and nothing after them
unfoldable pub rib : List Peer → Bool → Family → List ℕ → Result (List Event) Rule
rib peers ids family body = do
  sequence ← octets_at RibForm 4 body
  prefix ← prefix_at RibForm family sequence.1
  count ← number_at RibForm 2 prefix.1
  events ← times (one_more (rib_entry_at peers ids family prefix.0)) count.0 [] count.1
  all_read RibForm events
