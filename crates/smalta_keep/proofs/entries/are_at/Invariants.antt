use Rattle.std.proofs.Common.{List, Bool, take, map}
use Rattle.std.specs.Prelude.{option_map}
use Rattle.fib_addr.specs.Views.{prefix_as}
use Rattle.fib_delta.specs.Views.{change_as}
use Rattle.smalta_keep.specs.Rooms.{HaveRoom, IsNodeAt}
use Rattle.smalta_keep.proofs.entries.are_at.Given as goal

abbrev pub invariant-loop-change : goal.invariant-loop-change
invariant-loop-change l = (nodes : List (List Bool)) → IsNodeAt (option_map prefix_as l.at) nodes → HaveRoom nodes (map change_as (take l.change-index l.changes))
