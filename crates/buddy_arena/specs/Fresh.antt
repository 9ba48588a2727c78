-- A fresh arena: nothing was given back since it was made or cleared, so that of each order one block is free at most, of which the place is kept.
use Rattle.std.specs.Prelude.{◌≡◌, ℕ, zero, suc, ◌+◌, ◌^◌, ◌<◌, ◌≤◌, List, Bool, true, false, cond, Option, Some, None, length, slice_index_or}
use Rattle.std.proofs.Common.{replicate}
use Rattle.buddy_arena.specs.Space.{blocks, num, marked, has_block}
use Rattle.buddy_arena.specs.Masks.{ord, mask, free_of, IsMaskTree}

-- the place of the free block of an order
abbrev pub kept_at : List (Option ℕ) → ℕ → Option ℕ
kept_at places j = slice_index_or places j None

-- with a block of this order free too, if there is one
abbrev pub with_block : ℕ → Option ℕ → List Bool → List Bool
with_block j None f = f
with_block j (Some p) f = marked p (2 ^ j) true f

-- with the blocks of the orders below k
unfoldable pub with_blocks : ℕ → List (Option ℕ) → List Bool → List Bool
with_blocks zero places f = f
with_blocks (suc k) places f = with_block k (kept_at places k) (with_blocks k places f)

-- the free places of a fresh arena of this order: those of the blocks whose places are kept
abbrev pub fresh_free : ℕ → List (Option ℕ) → List Bool
fresh_free order places = with_blocks 31 places (replicate (2 ^ order) false)

-- those of an arena: a fresh one's masks say nothing
abbrev pub free_in : Bool → ℕ → ℕ → List ℕ → List (Option ℕ) → List Bool
free_in fresh base height masks places = cond fresh (fresh_free (ord base height) places) (free_of base height masks)

abbrev pub kept_count : Option ℕ → ℕ
kept_count None = 0
kept_count (Some p) = 1

-- the places kept are those of all free blocks
pub record AreKept (order : ℕ) (f : List Bool) (places : List (Option ℕ)) : Type 0 where
  pub many : (j : ℕ) → num j (blocks order f) ≡ kept_count (kept_at places j)
  pub at : (j p : ℕ) → kept_at places j ≡ Some p → has_block j p (blocks order f) ≡ true

-- the block of order m, at p, is gone; of its halves down to order k the upper ones are kept
pub record SplitsAt (k m p : ℕ) (old new : List (Option ℕ)) : Type 0 where
  pub lower : (j : ℕ) → j < k → kept_at new j ≡ kept_at old j
  pub halves : (j : ℕ) → k ≤ j → j < m → kept_at new j ≡ Some (p + 2 ^ j)
  pub gone : kept_at new m ≡ None
  pub higher : (j : ℕ) → m < j → kept_at new j ≡ kept_at old j

-- the greatest order below a bound of which a block is free
abbrev pub IsLastBelow : List (Option ℕ) → ℕ → Option ℕ → Type 0
IsLastBelow places below None = (i : ℕ) → i < below → kept_at places i ≡ None
IsLastBelow places below (Some m) = (m < below) × ((p : ℕ) × (kept_at places m ≡ Some p)) × ((i : ℕ) → m < i → i < below → kept_at places i ≡ None)

-- this block is free, and no order from k on is less
pub record IsFoundFrom (k m p : ℕ) (places : List (Option ℕ)) : Type 0 where
  pub from : k ≤ m
  pub below : m < 31
  pub there : kept_at places m ≡ Some p
  pub least : (j : ℕ) → k ≤ j → j < m → kept_at places j ≡ None

-- the masks are right, and a fresh arena's are of no free place, while the places that it keeps are those of all its free blocks
pub record AreFree (fresh : Bool) (base height : ℕ) (masks : List ℕ) (places : List (Option ℕ)) : Type 0 where
  pub right : IsMaskTree base height masks
  pub long : length places ≡ 31
  pub bare : fresh ≡ true → mask base height masks ≡ 0
  pub kept : fresh ≡ true → AreKept (ord base height) (fresh_free (ord base height) places) places

-- the order of an arena, and which of its places are free
pub record FreeMap : Type 0 where
  pub order : ℕ
  pub free : List Bool

-- the map of an arena of this order
pub record IsMapOf (order : ℕ) (free : List Bool) : Type 0 where
  pub small : order < 31
  pub places : length free ≡ 2 ^ order
