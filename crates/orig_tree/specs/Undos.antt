-- The last change of a route, and how it is taken back.
use Rattle.std.specs.Prelude.{◌≡◌, ◌≤◌, ℕ, suc, List, Option, Some, None}
use Rattle.table_model.specs.Width.{width}
use Rattle.table_model.specs.declared.family.Family.{Family}
use Rattle.table_model.specs.Table.{Table, lpm}
use Rattle.table_model.specs.Entries.{of_table}
use Rattle.orig_tree.specs.Edits.{edit}
use Rattle.orig_tree.specs.Views.{path_steps, InPlace}
use Rattle.orig_tree.specs.Walk.{CanEdit}
use Rattle.orig_tree.specs.Arena.{whole}
use Rattle.orig_tree.specs.Bests.{AreBest, back}
use Rattle.orig_tree.specs.declared.node.Node.{Node}
use Rattle.orig_tree.specs.declared.best.Best.{Best}
use Rattle.orig_tree.specs.declared.undo.Undo.{Undo}

-- the routes with what the path had before
abbrev pub undone : Undo → Table → Table
undone u R = edit (path_steps u.path) u.hop R

-- the routes before the last change, if it can be taken back
abbrev pub routes_before : Option Undo → Table → Table
routes_before None R = R
routes_before (Some u) R = undone u R

-- taken back, the change leaves the routes R, with what stands for all regions then
pub record UndoesChange (f : Family) (R : Table) (cells : List Node) (kept : ℕ → Best) (u : Undo) : Type 0 where
  pub routes : undone u (whole f cells).routes ≡ R
  pub best : AreBest (suc (width f)) cells (back u.changes.items kept) (λ a. lpm R a 0) 0
  pub few : u.path.left ≤ width f
  pub allowed : CanEdit (path_steps u.path) u.hop (whole f cells).nodes

-- the last change, if it can be taken back
abbrev pub CanUndo : Family → List Node → (ℕ → Best) → Option Undo → Type 0
CanUndo f cells kept None = Unit {0}
CanUndo f cells kept (Some u) =
    UndoesChange f (undone u (whole f cells).routes) cells kept u × InPlace (of_table f (undone u (whole f cells).routes))
