-- A new node's arrays, written.
use Rattle.std.specs.Prelude.{◌≡◌, ℕ, ◌+◌, ◌<◌, ◌≤◌, ◌⊎◌, List, true, Option, Some, None, length, slice_index_or}
use Rattle.buddy_arena.specs.Space.{Space, IsSized}
use Rattle.buddy_arena.specs.Places.{is_out}
use Rattle.poptrie_build.specs.Making.{slot_kind}
use Rattle.poptrie_build.specs.declared.node.Node.{Node}
use Rattle.path_copying.specs.Kids.{kid_in}

-- a slot has a child exactly if it has no hop
abbrev pub Matches : Option ℕ → Option Node → Type 0
Matches None None = ⊥
Matches None (Some n) = Unit {0}
Matches (Some h) None = Unit {0}
Matches (Some h) (Some n) = ⊥

abbrev pub AreMatched : List (Option ℕ) → List (Option Node) → Type 0
AreMatched kinds kids = (v : ℕ) → v < 64 → Matches (slot_kind kinds v) (kid_in kids v)

-- n places from a base are out
abbrev pub IsBlockOut : {T : Type 0} → ℕ → ℕ → Space T → Type 0
IsBlockOut base n s = (i : ℕ) → i < n → (is_out s.free (base + i) ≡ true) × (base + i < length s.cells)

-- only these n cells are written
pub record WritesCells {T : Type 0} (empty : T) (base n : ℕ) (old new : Space T) : Type 0 where
  pub free : new.free ≡ old.free
  pub order : new.order ≡ old.order
  pub fill : new.fill ≡ old.fill
  pub sized : IsSized new
  pub long : length new.cells ≡ length old.cells
  pub others : (i : ℕ) → (i < base) ⊎ (base + n ≤ i) → slice_index_or new.cells i empty ≡ slice_index_or old.cells i empty
