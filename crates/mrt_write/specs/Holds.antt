-- What an open record holds, and how it goes on.
use Rattle.std.specs.Prelude.{◌≡◌, ℕ, Bool, Option, Some, None, List, ◌∷◌, ◌++◌, length, flat_map}
use Rattle.route_model.specs.Events.{Peer}
use Rattle.route_model.specs.Choice.{Place, PathAttrs, Candidates}
use Rattle.fib_addr.specs.Views.{prefix_as}
use Rattle.mrt_write.specs.Entries.{entry_octets}
use Rattle.mrt_write.specs.Checkpoint.{Piece, piece_records}
use Rattle.mrt_write.specs.Saved.{pieces_from, pieces_of}
use Rattle.mrt_write.specs.declared.growing.Open.{Open}

-- the record holds the candidates of this piece
pub record OpenHolds (peers : List Peer) (ids : Bool) (o : Open) (p : Piece) : Type 0 where
  pub prefix : p.prefix ≡ prefix_as o.prefix
  pub count : length p.candidates ≡ o.count
  pub entries : o.entries.items ≡ flat_map (entry_octets peers ids) p.candidates

-- What is put, and what is to come of the pieces that begin with the one that is held, make the whole.
pub record OpenLeadsTo (peers : List Peer) (ids : Bool) (o : Open) (out : List ℕ) (rest : Candidates) (whole : List ℕ) : Type 0 where
  pub piece : Piece
  pub holds : OpenHolds peers ids o piece
  pub makes : out ++ piece_records peers ids o.number (pieces_from peers ids piece rest) ≡ whole

-- a candidate whose entry has these octets is taken, whatever follows
abbrev pub OpenTakes : Bool → Place × PathAttrs → List ℕ → Open → List ℕ → Open → List ℕ → Type 0
OpenTakes ids c entry old before new after = (peers : List Peer) (rest : Candidates) (whole : List ℕ) → entry ≡ entry_octets peers ids c → OpenLeadsTo peers ids old before (c ∷ rest) whole → OpenLeadsTo peers ids new after rest whole

-- the same, if there may be no record yet
abbrev pub LeadsTo : List Peer → Bool → Option Open → List ℕ → Candidates → List ℕ → Type 0
LeadsTo peers ids None out rest whole = out ++ piece_records peers ids 0 (pieces_of peers ids rest) ≡ whole
LeadsTo peers ids (Some o) out rest whole = OpenLeadsTo peers ids o out rest whole
