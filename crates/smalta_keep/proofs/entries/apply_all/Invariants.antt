use Rattle.std.proofs.Common.{◌≡◌, drop, map}
use Rattle.table_model.specs.Changes.{after_changes}
use Rattle.fib_delta.specs.Views.{change_as}
use Rattle.smalta_keep.specs.Rooms.{KeepsRoutes}
use Rattle.smalta_keep.proofs.entries.apply_all.Given as goal

abbrev pub invariant-loop-change : goal.invariant-loop-change
invariant-loop-change l = record {
  keeps : KeepsRoutes l.fn.tree l.tree;
  before : l.tree.before ≡ l.fn.tree.before;
  entries : after_changes (map change_as (drop l.change-index l.changes)) l.tree.entries ≡ after_changes (map change_as l.changes) l.fn.tree.entries;
}
