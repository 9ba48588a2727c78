-- The blocks of an arena that an update took and that it replaces, and those that are retired, each as an array.
use Rattle.std.specs.Prelude.{◌≡◌, ℕ, suc, ◌+◌, ◌^◌, ◌<◌, ◌≤◌, List, [], ◌∷◌, ◌++◌, Bool, true, false, cond, length, nat_le, take, drop}
use Rattle.std.specs.List.{AllByRecursion}
use Rattle.buddy_arena.specs.Space.{Space}
use Rattle.buddy_arena.specs.declared.arena.Block.{Block}
use Rattle.buddy_arena.specs.declared.blocks.Aside.{Aside}
use Rattle.buddy_arena.specs.Places.{is_out, count_free}
use Rattle.buddy_arena.specs.Arrays.{Array, AreApart, places_of, among}

-- a block, and the end at which it was retired
pub record Retired : Type 0 where
  pub block : Array
  pub end : ℕ

-- what the pending update took, what it replaces, what is retired in the order of ends, and the number of ends so far
pub record Held : Type 0 where
  pub taken : List Array
  pub replaced : List Array
  pub retired : List Retired
  pub time : ℕ

abbrev pub blocks_of : List Retired → List Array
blocks_of [] = []
blocks_of (r ∷ rest) = r.block ∷ blocks_of rest

-- those retired at an end after this time, which a reader that started then may be in
abbrev pub late : ℕ → List Retired → List Retired
late since [] = []
late since (r ∷ rest) = cond (nat_le r.end since) (late since rest) (r ∷ late since rest)

-- those that no reader is in that started at this time or later
abbrev pub early : ℕ → List Retired → List Retired
early since [] = []
early since (r ∷ rest) = cond (nat_le r.end since) (r ∷ early since rest) (early since rest)

-- each was retired at an end by this time
abbrev pub AreRetiredBy : ℕ → List Retired → Type 0
AreRetiredBy t rs = AllByRecursion (λ (r : Retired). r.end ≤ t) rs

-- as they become at an end
abbrev pub at_end : ℕ → List Array → List Retired
at_end t [] = []
at_end t (a ∷ rest) = record { block = a; end = t } ∷ at_end t rest

-- ---- what becomes of what is held
abbrev pub nothing_held : ℕ → Held
nothing_held t = record { taken = []; replaced = []; retired = []; time = t }

-- the pending update took one more block, or replaces one more
abbrev pub with_taken : Held → Array → Held
with_taken h a = record h { taken = h.taken ++ a ∷ [] }

abbrev pub with_replaced : Held → Array → Held
with_replaced h a = record h { replaced = h.replaced ++ a ∷ [] }

-- an end: the blocks that the update took are the present version's, and those that it replaced are retired
abbrev pub ended : Held → Held
ended h = record { taken = []; replaced = []; retired = h.retired ++ at_end (suc h.time) h.replaced; time = suc h.time }

-- the update is forgotten
abbrev pub cancelled : Held → Held
cancelled h = record h { taken = []; replaced = [] }

-- what was retired by this time is given back
abbrev pub released : ℕ → Held → Held
released since h = record h { retired = late since h.retired }

-- whatever becomes of the update, the blocks that are given back then or later are in N and share no place
pub record AreHeldIn (N : ℕ → Bool) (h : Held) : Type 0 where
  pub with_taken : AreApart N (h.taken ++ blocks_of h.retired)
  pub with_replaced : AreApart N (h.replaced ++ blocks_of h.retired)

-- blocks were given back: all else is as it was
pub record GivesBack {T : Type 0} (gone : List Array) (old new : Space T) : Type 0 where
  pub cells : new.cells ≡ old.cells
  pub order : new.order ≡ old.order
  pub fill : new.fill ≡ old.fill
  pub still : (i : ℕ) → is_out old.free i ≡ true → among gone i ≡ false → is_out new.free i ≡ true
  pub left : count_free new ≡ count_free old + places_of gone

-- the number of their places, as far as 64 bits can hold it
abbrev pub Counts : ℕ → List Array → Type 0
Counts n xs = places_of xs < 18446744073709551616 → n ≡ places_of xs

-- ---- as they are kept
abbrev pub arrays_of : List Block → List Array
arrays_of [] = []
arrays_of (b ∷ rest) = (b.place, 2 ^ b.order) ∷ arrays_of rest

abbrev pub retired_of : List Aside → List Retired
retired_of [] = []
retired_of (a ∷ rest) = record { block = (a.block.place, 2 ^ a.block.order); end = a.end } ∷ retired_of rest

abbrev pub EndAt : ℕ → List Aside → Type 0
EndAt t xs = AllByRecursion (λ (a : Aside). a.end ≡ t) xs

abbrev pub EndBy : ℕ → List Aside → Type 0
EndBy t xs = AllByRecursion (λ (a : Aside). a.end ≤ t) xs

-- no block was retired at an earlier end than one before it
abbrev pub EndsAscend : List Aside → Type 0
EndsAscend [] = Unit {0}
EndsAscend (a ∷ rest) = AllByRecursion (λ (b : Aside). a.end ≤ b.end) rest × EndsAscend rest

-- the first n are those that were retired by a time, and the others are later
pub record IsCut (aside : List Aside) (since n : ℕ) : Type 0 where
  pub few : n ≤ length aside
  pub gone : early since (retired_of aside) ≡ retired_of (take n aside)
  pub left : late since (retired_of aside) ≡ retired_of (drop n aside)

-- the first n were retired at an end that is over, and the others are to be so at the next one
pub record IsQueue (aside : List Aside) (n time : ℕ) : Type 0 where
  pub many : n ≤ length aside
  pub past : EndBy time (take n aside)
  pub pending : EndAt (suc time) (drop n aside)
  pub in_order : EndsAscend aside

-- the places are counted of the blocks that were taken, of the first n that are set aside, which are the retired ones, and of the others
pub record AreCounted (some : List Block) (aside : List Aside) (n t p r : ℕ) : Type 0 where
  pub taken : Counts t (arrays_of some)
  pub replaced : Counts p (blocks_of (retired_of (drop n aside)))
  pub retired : Counts r (blocks_of (retired_of (take n aside)))
