-- What is added at the turn, and then within the event's prefix.
use Rattle.std.specs.Prelude.{◌≡◌, ◌≢◌, ◌⊎◌, ℕ, List, Bool, ◌++◌, Option, None, map}
use Rattle.std.specs.Option.{option_to_list}
use Rattle.table_model.specs.Table.{Table, IsTable, here, inherit}
use Rattle.table_model.specs.Entries.{of_table}
use Rattle.table_model.specs.Changes.{Change}
use Rattle.table_model.specs.Regions.{lift}
use Rattle.kept_model.specs.Parts.{BothOrNeither, ArePart}
use Rattle.kept_model.specs.Between.{between}
use Rattle.fib_addr.specs.Views.{prefix_as, entry_as}
use Rattle.fib_addr.specs.declared.prefix.Prefix as code
use Rattle.orig_tree.specs.Spots.{Spot, spot_answers}
use Rattle.moves_model.specs.Sets.{inner_set, new_entry, near_of}
use Rattle.fib_moves.specs.declared.down.Differing.{Differing}
use Rattle.fib_moves.specs.declared.way.LastBlocked.{LastBlocked}

-- an entry at r, if any, and what is within p
abbrev pub around : List Bool → Option ℕ → List Bool → Table → Table
around r o p L = lift r (here o) ++ lift p L

-- the turn's new entry
abbrev pub gets_at : Spot → LastBlocked → Option ℕ
gets_at s t = new_entry (inner_set s.bits (spot_answers s) s.entries) t.old t.inherited

-- If the turn is the event's prefix nothing is added, and that inherits what it did; else both hops are if they differ, and it inherits
-- what comes from the new entry.
abbrev pub TurnCase : Spot → ℕ → LastBlocked → Option ℕ → Option ℕ → ℕ → Type 0
TurnCase s len t o n hop =
    ((t.prefix.len ≡ len) × (o ≡ None) × (n ≡ None) × (hop ≡ t.inherited))
    ⊎ ((t.prefix.len ≢ len) × BothOrNeither t.old (gets_at s t) o n × (hop ≡ inherit (gets_at s t) t.inherited))

-- the turn's entries are added after what there was
pub record IsTurned (s : Spot) (len : ℕ) (t : LastBlocked) (before after : Differing) (hop : ℕ) : Type 0 where
  pub o : Option ℕ
  pub n : Option ℕ
  pub old : map entry_as after.had.items ≡ map entry_as before.had.items ++ map (λ k. (prefix_as t.prefix, k)) (option_to_list o)
  pub new : map entry_as after.gets.items ≡ map entry_as before.gets.items ++ map (λ k. (prefix_as t.prefix, k)) (option_to_list n)
  pub which : TurnCase s len t o n hop

-- the changes are those between two lists: the turn's entries, and those within the prefix
pub record AreTurned (s : Spot) (p : code.Prefix) (t : LastBlocked) (changes : List Change) : Type 0 where
  pub o : Option ℕ
  pub n : Option ℕ
  pub hop : ℕ
  pub had : Table
  pub gets : Table
  pub had_table : IsTable s.bits had
  pub gets_table : IsTable s.bits gets
  pub part : ArePart s.entries (near_of s.bits (spot_answers s) s.entries hop) had gets
  pub which : TurnCase s p.len t o n hop
  pub told : changes ≡ between (of_table p.family (around (prefix_as t.prefix).bits o (prefix_as p).bits had)) (of_table p.family (around (prefix_as t.prefix).bits n (prefix_as p).bits gets))
