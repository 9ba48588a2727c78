-- Leaves, written side by side.
use Rattle.std.specs.Prelude.{◌≡◌, ℕ, ◌+◌, ◌<◌, ◌≤◌, ◌⊎◌, List, length, slice_index_or}
use Rattle.buddy_arena.specs.Space.{Space, IsSized}

-- the n cells from a place on are the first n of these hops, and no other is written
pub record PutsAll (base n : ℕ) (hops : List ℕ) (old new : Space ℕ) : Type 0 where
  pub cells : (i : ℕ) → i < n → slice_index_or new.cells (base + i) 0 ≡ slice_index_or hops i 0
  pub others : (i : ℕ) → (i < base) ⊎ (base + n ≤ i) → slice_index_or new.cells i 0 ≡ slice_index_or old.cells i 0
  pub long : length new.cells ≡ length old.cells
  pub free : new.free ≡ old.free
  pub order : new.order ≡ old.order
  pub fill : new.fill ≡ old.fill
  pub sized : IsSized new
