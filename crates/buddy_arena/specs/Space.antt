-- The free places of an arena, and the blocks that they make.
use Rattle.std.proofs.Common.{replicate}
use Rattle.std.specs.List.{AllByRecursion}
use Rattle.std.specs.Prelude.{◌≡◌, ◌<◌, ◌≤◌, Option, Some, None, ℕ, zero, suc, ◌+◌, ◌-◌, ◌^◌, List, [], ◌∷◌, ◌++◌, length, map, take, drop, Bool, true, false, cond, nat_eq, nat_le, nat_lt, ◌*◌, ◌||◌, ◌&&◌, ◌⊎◌}

-- a block: its order and its place
abbrev pub Free : Type 0
Free = ℕ × ℕ

abbrev pub all_true : List Bool → Bool
all_true [] = true
all_true (b ∷ bs) = b && all_true bs

-- the same block, seen from further below
abbrev pub shift : ℕ → Free → Free
shift n b = (b.0, n + b.1)

-- the free blocks of a region of 2 ^ j places, by their places: one if all is free, else those of its halves
unfoldable pub blocks : ℕ → List Bool → List Free
blocks zero free = cond (all_true free) ((0, 0) ∷ []) []
blocks (suc j) free = cond (all_true free) ((suc j, 0) ∷ []) (blocks j (take (2 ^ j) free) ++ map (shift (2 ^ j)) (blocks j (drop (2 ^ j) free)))

-- whether there is a free block of this order
abbrev pub has_order : ℕ → List Free → Bool
has_order m [] = false
has_order m (b ∷ bs) = nat_eq b.0 m || has_order m bs

-- the place of the first block of this order
abbrev pub first_block : ℕ → List Free → ℕ
first_block m [] = 0
first_block m (b ∷ bs) = cond (nat_eq b.0 m) b.1 (first_block m bs)

-- the list with n places from p on set to a value
abbrev pub marked : ℕ → ℕ → Bool → List Bool → List Bool
marked p n v [] = []
marked zero zero v (b ∷ bs) = b ∷ bs
marked zero (suc n) v (b ∷ bs) = v ∷ marked zero n v bs
marked (suc p) n v (b ∷ bs) = b ∷ marked p n v bs

-- 1 if a test holds
abbrev pub tick : Bool → ℕ
tick true = 1
tick false = 0

-- how many blocks of this order there are
abbrev pub num : ℕ → List Free → ℕ
num m [] = 0
num m (b ∷ bs) = tick (nat_eq b.0 m) + num m bs

-- one block of order m is gone, and there is one more of each order from k up to it
abbrev pub Splits : ℕ → ℕ → List Free → List Free → Type 0
Splits k m old new = (i : ℕ) → num i new + tick (nat_eq m i) ≡ num i old + tick (nat_le k i && nat_lt i m)

-- the place is a multiple of 2 ^ k
abbrev pub Aligned : ℕ → ℕ → Type 0
Aligned k p = (q : ℕ) × (p ≡ q * 2 ^ k)

-- m is the least order from k on of which there is a free block
pub record IsLeastFrom (k m : ℕ) (bs : List Free) : Type 0 where
  pub from : k ≤ m
  pub there : has_order m bs ≡ true
  pub least : (i : ℕ) → k ≤ i → i < m → has_order i bs ≡ false

-- no free block has this order or a greater one
abbrev pub NoneFrom : ℕ → List Free → Type 0
NoneFrom k bs = (i : ℕ) → k ≤ i → has_order i bs ≡ false

-- the greatest order of a free block, None if there is none
abbrev pub IsGreatest : Option ℕ → List Free → Type 0
IsGreatest None bs = NoneFrom 0 bs
IsGreatest (Some m) bs = (has_order m bs ≡ true) × NoneFrom (m + 1) bs

-- an arena: its order, which places are free, what its cells hold, and what they held at first
pub record Space (T : Type 0) : Type 0 where
  pub order : ℕ
  pub free : List Bool
  pub cells : List T
  pub fill : T

-- there are 2 ^ order places and as many cells
pub record IsSized {T : Type 0} (s : Space T) : Type 0 where
  pub small : s.order < 31
  pub places : length s.free ≡ 2 ^ s.order
  pub cells : length s.cells ≡ 2 ^ s.order

-- the places of a block are in the arena, and none of them is free
pub record IsOut (order : ℕ) (free : List Bool) (place k : ℕ) : Type 0 where
  pub aligned : Aligned k place
  pub small : k ≤ order
  pub within : place + 2 ^ k ≤ 2 ^ order
  pub out : marked place (2 ^ k) false free ≡ free

-- two blocks, each by its place and order, share no place
abbrev pub Apart : ℕ → ℕ → ℕ → ℕ → Type 0
Apart p k q m = (p + 2 ^ k ≤ q) ⊎ (q + 2 ^ m ≤ p)

-- a block of order k is taken: the lower part of the lowest free block of the least order from k on
pub record TakesBlock (order : ℕ) (old new : List Bool) (place k : ℕ) : Type 0 where
  pub chosen : (m : ℕ) × IsLeastFrom k m (blocks order old) × (place ≡ first_block m (blocks order old)) × Splits k m (blocks order old) (blocks order new)
  pub were : marked place (2 ^ k) true old ≡ old
  pub free : new ≡ marked place (2 ^ k) false old

-- the cells with the value after them, up to n
abbrev pub padded : {T : Type 0} → ℕ → T → List T → List T
padded n v xs = xs ++ replicate (n - length xs) v

-- an arena of which nothing was taken or written
abbrev pub empty : {T : Type 0} → ℕ → T → Space T
empty n fill = record { order = n; free = replicate (2 ^ n) true; cells = replicate (2 ^ n) fill; fill = fill }

-- how many places are free
abbrev pub free_count : List Bool → ℕ
free_count [] = 0
free_count (b ∷ bs) = tick b + free_count bs

-- no order has two free blocks, as it is if nothing was given back
abbrev pub OneEach : List Free → Type 0
OneEach bs = (i : ℕ) → num i bs ≤ 1

-- the blocks lie one after another from p to e: no two share a place
abbrev pub LieInOrder : ℕ → ℕ → List Free → Type 0
LieInOrder p e [] = p ≤ e
LieInOrder p e (b ∷ bs) = (p ≤ b.1) × LieInOrder (b.1 + 2 ^ b.0) e bs

-- whether a block is among the free ones
abbrev pub has_block : ℕ → ℕ → List Free → Bool
has_block o p [] = false
has_block o p (b ∷ bs) = (nat_eq b.0 o && nat_eq b.1 p) || has_block o p bs

-- a block and its buddy aren't both free
abbrev pub NoBuddies : List Free → Type 0
NoBuddies bs = (o q : ℕ) → has_block o ((2 * q) * 2 ^ o) bs ≡ true → has_block o ((2 * q + 1) * 2 ^ o) bs ≡ true → ⊥

-- the free blocks of an arena: aligned, disjoint, within it, and as many places as are free
pub record AreBlocks (order : ℕ) (free : List Bool) : Type 0 where
  pub aligned : AllByRecursion (λ b. Aligned b.0 b.1 × (b.0 ≤ order)) (blocks order free)
  pub apart : LieInOrder 0 (2 ^ order) (blocks order free)
  pub merged : NoBuddies (blocks order free)
