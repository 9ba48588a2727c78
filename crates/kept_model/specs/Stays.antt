-- Entries that a pass leaves as they are.
use Rattle.std.specs.Prelude.{◌≡◌, ℕ, ◌-◌, ◌≤◌, List, [], ◌∷◌, ◌++◌, Bool, true, false, not, nat_eq, Option, None, Some, length}
use Rattle.table_model.specs.Bits.{begins}
use Rattle.table_model.specs.Table.{Table, root, half, cut}
use Rattle.table_model.specs.Regions.{above, entry_at, SameEntries}
use Rattle.table_model.specs.Sets.{agg}

-- in a region of d more bits with the answers f that inherits h, the downward pass with L as the old table gives what L has
abbrev pub Stays : ℕ → (List Bool → ℕ) → Table → ℕ → Type 0
Stays d f L h = SameEntries (agg d f L h) L

-- Marks are entries. One with a hop other than none is wide.
abbrev pub is_wide_mark : Option ℕ → Bool
is_wide_mark None = false
is_wide_mark (Some h) = not (nat_eq h 0)

-- no dirty prefix is strictly within q, and q is at no wide dirty prefix and within none
pub record IsOff (q : List Bool) (marks : Table) : Type 0 where
  pub below : (b : Bool) (r : List Bool) → entry_at (q ++ (b ∷ r)) marks ≡ None
  pub around : (r : List Bool) → begins r q ≡ true → is_wide_mark (entry_at r marks) ≡ false

-- each region that is off the dirty prefixes has entries that stay, under the hop that it inherits in L, or without an entry above it h
abbrev pub Settled : ℕ → (List Bool → ℕ) → Table → ℕ → Table → Type 0
Settled d f L h marks = (q : List Bool) → length q ≤ d → IsOff q marks → Stays (d - length q) (λ a. f (q ++ a)) (cut q L) (above q L h)

-- the dirty prefixes that there were still are, and are wide if they were
pub record HasMarks (old new : Table) : Type 0 where
  pub there : (r : List Bool) → entry_at r new ≡ None → entry_at r old ≡ None
  pub wide : (r : List Bool) → is_wide_mark (entry_at r new) ≡ false → is_wide_mark (entry_at r old) ≡ false

-- p has a wide dirty prefix, and the dirty prefixes that there were still are
pub record IsMarked (p : List Bool) (old new : Table) : Type 0 where
  pub kept : HasMarks old new
  pub marked : is_wide_mark (entry_at p new) ≡ true

-- p has a dirty prefix, and the other dirty prefixes are as they were
pub record GetsMark (p : List Bool) (old new : Table) : Type 0 where
  pub marked : entry_at p new ≡ None → ⊥
  pub others : (r : List Bool) → (r ≡ p → ⊥) → entry_at r new ≡ entry_at r old

-- no wide dirty prefix is at a prefix that p is strictly within
abbrev pub NoneAround : List Bool → Table → Type 0
NoneAround [] marks = Unit {0}
NoneAround (b ∷ p) marks = (is_wide_mark (root marks) ≡ false) × NoneAround p (half b marks)
