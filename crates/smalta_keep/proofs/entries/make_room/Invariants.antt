use Rattle.std.proofs.Common.{◌≡◌, take, map}
use Rattle.fib_delta.specs.Views.{change_as}
use Rattle.smalta_keep.specs.Rooms.{HaveRoom, KeepsRoutes}
use Rattle.smalta_keep.proofs.entries.make_room.Given as goal

abbrev pub invariant-loop-change : goal.invariant-loop-change
invariant-loop-change l = record {
  keeps : KeepsRoutes l.fn.tree l.tree;
  entries : l.tree.entries ≡ l.fn.tree.entries;
  room : HaveRoom l.tree.nodes (map change_as (take l.change-index l.changes));
}
