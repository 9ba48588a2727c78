-- What the way down adds for a region, and the changes of the whole space.
use Rattle.std.specs.Prelude.{◌≡◌, ℕ, List, [], ◌++◌, Bool, map}
use Rattle.table_model.specs.Address.{Prefix}
use Rattle.table_model.specs.Table.{Table, IsTable, half}
use Rattle.table_model.specs.Entries.{of_table}
use Rattle.table_model.specs.Regions.{lift}
use Rattle.kept_model.specs.Parts.{ArePart}
use Rattle.table_model.specs.declared.family.Family.{Family}
use Rattle.table_model.specs.Changes.{Change}
use Rattle.kept_model.specs.Between.{between}
use Rattle.fib_addr.specs.Views.{entry_as}
use Rattle.orig_tree.specs.Spots.{Spot, spot_answers}
use Rattle.moves_model.specs.Sets.{near_of}
use Rattle.fib_moves.specs.declared.down.Differing.{Differing}

-- neither T nor the pass over a region of d more bits with the answers f has entries in a half, whatever it inherits
abbrev pub EndsThere : ℕ → (List Bool → ℕ) → Table → Type 0
EndsThere d f T = (b : Bool) (h : ℕ) → (half b T ≡ []) × (half b (near_of d f T h) ≡ [])

-- at each prefix within p at which the region's old entries and the pass under h differ, both are added after what there was
pub record ListsDiffering (p : Prefix) (s : Spot) (h : ℕ) (before after : Differing) : Type 0 where
  pub had : Table
  pub gets : Table
  pub old : map entry_as after.had.items ≡ map entry_as before.had.items ++ of_table p.family (lift p.bits had)
  pub new : map entry_as after.gets.items ≡ map entry_as before.gets.items ++ of_table p.family (lift p.bits gets)
  pub had_table : IsTable s.bits had
  pub gets_table : IsTable s.bits gets
  pub part : ArePart s.entries (near_of s.bits (spot_answers s) s.entries h) had gets

-- the changes of the whole space: those between two lists that have what the old table and the pass have where these differ
pub record ListsChanges (f : Family) (s : Spot) (changes : List Change) : Type 0 where
  pub had : Table
  pub gets : Table
  pub told : changes ≡ between (of_table f had) (of_table f gets)
  pub had_table : IsTable s.bits had
  pub gets_table : IsTable s.bits gets
  pub part : ArePart s.entries (near_of s.bits (spot_answers s) s.entries 0) had gets
