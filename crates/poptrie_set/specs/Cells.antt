-- The cells that a lookup can reach: none of them is written, and none is given back.
use Rattle.std.specs.Prelude.{◌≡◌, ℕ, ◌≤◌, true, slice_index_or}
use Rattle.poptrie_build.specs.Stands.{blank}
use Rattle.poptrie_set.specs.Rooms.{Room, safe}
use Rattle.poptrie_set.specs.Lives.{Seen}

-- in one arena, with `made` stores of the update made before and `made2` after: the places that a lookup of this start may read stay so, and hold
-- what they held
abbrev pub KeepsSafe : {T : Type 0} → T → ℕ → Room T → ℕ → Room T → ℕ → Type 0
KeepsSafe e t old made new made2 = (i : ℕ) → safe old made t i ≡ true → (safe new made2 t i ≡ true) × (slice_index_or new.space.cells i e ≡ slice_index_or old.space.cells i e)

-- in both arenas of a set
pub record KeepsCellsOf (t : ℕ) (old new : Seen) : Type 0 where
  pub nodes : KeepsSafe blank t old.nodes old.made new.nodes new.made
  pub leaves : KeepsSafe 0 t old.leaves old.made new.leaves new.made

-- of all lookups that started at this time or later
abbrev pub KeepsCells : ℕ → Seen → Seen → Type 0
KeepsCells since old new = (t : ℕ) → since ≤ t → t ≤ old.time → KeepsCellsOf t old new
