-- The checkpoint of candidates: which peers it names, how candidates are shared out among records, and when there is none.
use Rattle.std.specs.Prelude.{ℕ, ◌<◌, ◌^◌, Bool, not, ◌&&◌, List, [], ◌∷◌, ◌++◌, length, fold, nat_lt, Option, find, if◌then◌else◌}
use Rattle.std.specs.BTreeSet.{insert_key}
use Rattle.table_model.specs.Address.{IsAddress, same_prefix}
use Rattle.wire_model.specs.Record.{most_length}
use Rattle.route_model.specs.Events.{Peer, peer_cmp}
use Rattle.route_model.specs.Choice.{Place, PathAttrs, Candidates}
use Rattle.mrt_write.specs.Checkpoint.{Piece, most_entries, has_ids, piece_body, checkpoint}

-- the peers that have a candidate, in their order
unfoldable pub peers_with_candidates : Candidates → List Peer
peers_with_candidates held = fold (λ peers c. insert_key peer_cmp peers c.0.via.peer) [] held

-- ---- pieces

-- a piece of one candidate
abbrev pub piece_of : Place × PathAttrs → Piece
piece_of c = record { prefix = c.0.prefix; candidates = c ∷ [] }

-- a piece with one candidate more
abbrev pub with_candidate : Piece → Place × PathAttrs → Piece
with_candidate p c = record { prefix = p.prefix; candidates = p.candidates ++ c ∷ [] }

-- A record takes a further candidate of its prefix if its entries are then at most 65,535, and its body is no longer than one that is read.
unfoldable pub has_place : List Peer → Bool → Piece → Place × PathAttrs → Bool
has_place peers ids p c = same_prefix p.prefix c.0.prefix && (nat_lt (length p.candidates) most_entries && not (nat_lt most_length (length (piece_body peers ids 0 (with_candidate p c)))))

-- the pieces of candidates after those of an open piece: it takes those that fit, and is closed before the first that doesn't
unfoldable pub pieces_from : List Peer → Bool → Piece → Candidates → List Piece
pieces_from peers ids p [] = p ∷ []
pieces_from peers ids p (c ∷ held) = if has_place peers ids p c then pieces_from peers ids (with_candidate p c) held else p ∷ pieces_from peers ids (piece_of c) held

unfoldable pub pieces_of : List Peer → Bool → Candidates → List Piece
pieces_of peers ids [] = []
pieces_of peers ids (c ∷ held) = pieces_from peers ids (piece_of c) held

-- the octets of the checkpoint
abbrev pub saved : Candidates → List ℕ
saved held = checkpoint (peers_with_candidates held) (has_ids held) (pieces_of (peers_with_candidates held) (has_ids held) held)

-- ---- what is refused

-- the most peers of a table, a number of two octets, and the longest path that is written
abbrev pub most_peers : ℕ
most_peers = 65535

abbrev pub most_path : ℕ
most_path = 15000

-- the first candidate whose path is too long
abbrev pub long_one : Candidates → Option (Place × PathAttrs)
long_one held = find (λ c. nat_lt most_path c.1.path) held

-- what candidates are in the code: AS numbers, path identifiers of four octets, next hops with as many bits as their families
pub record IsCode (c : Place × PathAttrs) : Type 0 where
  pub asn : c.0.via.peer.asn < 2 ^ 32
  pub id : c.0.via.id < 2 ^ 32
  pub hop : IsAddress c.1.hop
