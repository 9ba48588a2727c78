-- What a snapshot's pass lists of a region, and of the whole table.
use Rattle.std.specs.Prelude.{◌≡◌, ℕ, suc, Bool, [], ◌++◌, map, Option, Some, None}
use Rattle.std.specs.List.{AllByRecursion}
use Rattle.std.specs.Map.{keys_of}
use Rattle.table_model.specs.Address.{Prefix}
use Rattle.table_model.specs.Width.{width}
use Rattle.table_model.specs.Halves.{half_at}
use Rattle.table_model.specs.Table.{Table, IsTable, root, half, inherit}
use Rattle.table_model.specs.Entries.{of_family, of_table}
use Rattle.table_model.specs.Regions.{lift}
use Rattle.table_model.specs.Sets.{agg, answers}
use Rattle.kept_model.specs.Between.{AreEntries, between}
use Rattle.kept_model.specs.Patched.{patch_of}
use Rattle.kept_model.specs.Parts.{ArePart}
use Rattle.fib_addr.specs.Views.{entry_as}
use Rattle.orig_tree.specs.Spots.{Spot, spot_answers}
use Rattle.orig_tree.specs.Views.{Labels}
use Rattle.orig_tree.specs.Walk.{Walks, behind}
use Rattle.smalta_keep.specs.declared.pass.Differing.{Differing}

-- at each prefix of the region at which the table and the pass under h differ both are listed, after those that there are
pub record IsPass (p : Prefix) (s : Spot) (h : ℕ) (before after : Differing) : Type 0 where
  pub had : Table
  pub gets : Table
  pub old : map entry_as after.had.items ≡ map entry_as before.had.items ++ of_table p.family (lift p.bits had)
  pub new : map entry_as after.gets.items ≡ map entry_as before.gets.items ++ of_table p.family (lift p.bits gets)
  pub had_table : IsTable s.bits had
  pub gets_table : IsTable s.bits gets
  pub part : ArePart s.entries (agg s.bits (spot_answers s) s.entries h) had gets

-- the same of the half of a region, which inherits the hop h from what it would get
pub record IsHalfPass (b : Bool) (p : Prefix) (s : Spot) (h : ℕ) (before after : Differing) : Type 0 where
  pub spot : Spot
  pub bits : suc spot.bits ≡ s.bits
  pub routes : spot.routes ≡ half b s.routes
  pub entries : spot.entries ≡ half b s.entries
  pub hop : spot.hop ≡ inherit (root s.routes) s.hop
  pub pass : IsPass (half_at b p) spot h before after

-- the node of the whole tree of dirty prefixes
abbrev pub IsRootOf : Option Labels → Option Walks → Type 0
IsRootOf None root = root ≡ None
IsRootOf (Some m) root = of_family m.family m.entries ≡ (behind root).entries

-- the same of the whole table
pub record AreWhole (kept : Labels) (d : Differing) : Type 0 where
  pub had : Table
  pub gets : Table
  pub old : map entry_as d.had.items ≡ of_table kept.family had
  pub new : map entry_as d.gets.items ≡ of_table kept.family gets
  pub had_table : IsTable (width kept.family) had
  pub gets_table : IsTable (width kept.family) gets
  pub part : ArePart (of_family kept.family kept.entries) (agg (width kept.family) (answers (of_family kept.family kept.routes) []) (of_family kept.family kept.entries) 0) had gets
  pub all : AllByRecursion (λ (q : Prefix). q.family ≡ kept.family) (keys_of kept.entries)

-- the changes between both lists are those between the tree's entries and the patch at p, for the tree's routes, there and back
pub record IsRepair (kept : Labels) (p : Prefix) (d : Differing) : Type 0 where
  pub had : AreEntries (map entry_as d.had.items)
  pub gets : AreEntries (map entry_as d.gets.items)
  pub there : between (map entry_as d.had.items) (map entry_as d.gets.items) ≡ between kept.entries (patch_of kept.routes p kept.entries)
  pub back : between (map entry_as d.gets.items) (map entry_as d.had.items) ≡ between (patch_of kept.routes p kept.entries) kept.entries
