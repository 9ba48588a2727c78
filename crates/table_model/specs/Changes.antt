-- Changes to a table, and what they come to.
use Rattle.std.specs.Prelude.{ℕ, List, [], ◌∷◌, Bool, cond, Option, Some, None, is_some, map}
use Rattle.std.specs.Option.{option_and_then}
use Rattle.std.specs.Map.{lookup, remove_entry}
use Rattle.table_model.specs.Address.{Prefix, same_prefix}
use Rattle.table_model.specs.Entries.{Entries, with_entry}

pub data Change : Type 0 where
  Add : Prefix → ℕ → Change
  Replace : Prefix → ℕ → Change
  Remove : Prefix → Change

-- what adds each of these entries
abbrev pub additions : Entries → List Change
additions L = map (λ e. Add e.0 e.1) L

-- whether the table has an entry at the prefix
abbrev pub is_held : Prefix → Entries → Bool
is_held p L = is_some (lookup (same_prefix p) L)

-- the table after the change: an Add only if the prefix isn't held, the others only if it is
abbrev pub after_change : Change → Entries → Option Entries
after_change (Add p h) L = cond (is_held p L) None (Some (with_entry L (p, h)))
after_change (Replace p h) L = cond (is_held p L) (Some (with_entry L (p, h))) None
after_change (Remove p) L = cond (is_held p L) (Some (remove_entry (same_prefix p) L)) None

-- the table after each of the changes in order
abbrev pub after_changes : List Change → Entries → Option Entries
after_changes [] L = Some L
after_changes (c ∷ cs) L = option_and_then (after_changes cs) (after_change c L)

-- the sum of changes: what they make of the empty table
abbrev pub sum_of : List Change → Option Entries
sum_of cs = after_changes cs []
