-- A checkpoint: candidates as an MRT dump.
use Rattle.std.specs.Prelude.{ℕ, ◌+◌, ◌%◌, ◌^◌, Bool, true, false, not, List, [], ◌∷◌, ◌++◌, length, flat_map, ◌==◌}
use Rattle.std.specs.List.{list_any}
use Rattle.table_model.specs.declared.family.Family.{Family}
use Rattle.table_model.specs.declared.family.Family.TheVariants.{V4, V6}
use Rattle.table_model.specs.Address.{Prefix}
use Rattle.route_model.specs.Events.{Peer, Event, Announce}
use Rattle.route_model.specs.Choice.{Place, PathAttrs, Candidates}
use Rattle.wire_model.specs.Octets.{number_octets, prefix_octets, record_octets, repeated_path}
use Rattle.mrt_write.specs.Entries.{table_peer, entry_octets}

-- the announcement of a candidate, with the origin that the written path gives
abbrev pub announced : Place × PathAttrs → Event
announced c = Announce c.0.via c.0.prefix c.1.path c.1.hop (repeated_path c.0.via.peer.asn c.1.path).origin

-- ---- pieces of the candidates, of which each is a record

-- candidates of one prefix
pub record Piece : Type 0 where
  pub prefix : Prefix
  pub candidates : Candidates

-- whether entries have path identifiers: they do if any candidate has one other than 0
abbrev pub has_ids : Candidates → Bool
has_ids held = list_any (λ c. not (c.0.via.id == 0)) held

-- ---- the records

-- the most entries of a record, a number of two octets
abbrev pub most_entries : ℕ
most_entries = 65535

-- RIB_IPV4_UNICAST (2), RIB_IPV6_UNICAST (4) (RFC 6396, 4.3.2), or with path identifiers 8 and 10 (RFC 8050, 4)
abbrev pub rib_subtype : Bool → Family → ℕ
rib_subtype false V4 = 2
rib_subtype false V6 = 4
rib_subtype true V4 = 8
rib_subtype true V6 = 10

-- Collector BGP ID 0, an empty View Name, Peer Count, the peers
unfoldable pub table_body : List Peer → List ℕ
table_body peers = number_octets 4 0 ++ (number_octets 2 0 ++ (number_octets 2 (length peers) ++ flat_map table_peer peers))

-- Sequence, prefix, Entry Count, entries
unfoldable pub piece_body : List Peer → Bool → ℕ → Piece → List ℕ
piece_body peers ids number p = number_octets 4 (number % 2 ^ 32) ++ (prefix_octets p.prefix ++ (number_octets 2 (length p.candidates) ++ flat_map (entry_octets peers ids) p.candidates))

unfoldable pub piece_record : List Peer → Bool → ℕ → Piece → List ℕ
piece_record peers ids number p = record_octets 13 (rib_subtype ids p.prefix.family) (piece_body peers ids number p)

-- the records of pieces, numbered from here
unfoldable pub piece_records : List Peer → Bool → ℕ → List Piece → List ℕ
piece_records peers ids number [] = []
piece_records peers ids number (p ∷ pieces) = piece_record peers ids number p ++ piece_records peers ids (number + 1) pieces

-- TABLE_DUMP_V2 (13): a PEER_INDEX_TABLE (1), then a record for each piece
abbrev pub checkpoint : List Peer → Bool → List Piece → List ℕ
checkpoint peers ids pieces = record_octets 13 1 (table_body peers) ++ piece_records peers ids 0 pieces
