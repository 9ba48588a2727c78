-- What a checkpoint can hold.
use Rattle.std.specs.Prelude.{◌≡◌, ℕ, ◌^◌, ◌≤◌, ◌<◌, Bool, List, length, flat_map, slice_get, Some}
use Rattle.std.specs.List.{AllByRecursion}
use Rattle.table_model.specs.Address.{Prefix, IsPrefix, IsAddress}
use Rattle.wire_model.specs.Record.{most_length}
use Rattle.wire_model.specs.Wire.{id_size}
use Rattle.route_model.specs.Events.{Peer, IsPeer}
use Rattle.route_model.specs.Choice.{Place, PathAttrs, Candidates}
use Rattle.mrt_write.specs.Entries.{peer_index}
use Rattle.mrt_write.specs.Checkpoint.{Piece, most_entries, piece_body}

-- a peer with an address, and an AS number of four octets
pub record IsWritablePeer (q : Peer) : Type 0 where
  pub addr : IsPeer q
  pub asn : q.asn < 2 ^ 32

-- A candidate of the prefix, by a peer of the table, with an identifier that fits, a path of at most 15,000 and a next hop.
pub record IsWritable (peers : List Peer) (ids : Bool) (p : Prefix) (c : Place × PathAttrs) : Type 0 where
  pub prefix : c.0.prefix ≡ p
  pub peer : slice_get peers (peer_index peers c.0.via.peer) ≡ Some c.0.via.peer
  pub index : peer_index peers c.0.via.peer < 2 ^ 16
  pub id : c.0.via.id < 256 ^ id_size ids
  pub asn : c.0.via.peer.asn < 2 ^ 32
  pub path : c.1.path ≤ 15000
  pub hop : IsAddress c.1.hop

-- a piece that a record holds
pub record IsPiece (peers : List Peer) (ids : Bool) (p : Piece) : Type 0 where
  pub is_prefix : IsPrefix p.prefix
  pub candidates : AllByRecursion (IsWritable peers ids p.prefix) p.candidates
  pub few : length p.candidates ≤ most_entries
  pub small : (number : ℕ) → length (piece_body peers ids number p) ≤ most_length

-- a checkpoint that can be written
pub record AreWritable (peers : List Peer) (ids : Bool) (pieces : List Piece) : Type 0 where
  pub few : length peers ≤ 65535
  pub each : AllByRecursion IsWritablePeer peers
  pub whole : AllByRecursion (IsPiece peers ids) pieces

-- the candidates of all pieces
abbrev pub all_of : List Piece → Candidates
all_of pieces = flat_map (λ p. p.candidates) pieces
