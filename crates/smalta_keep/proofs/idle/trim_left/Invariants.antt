use Rattle.smalta_keep.specs.Rooms.{ChangesNodes}
use Rattle.smalta_keep.proofs.idle.trim_left.Given as goal

abbrev pub invariant-loop-change : goal.invariant-loop-change
invariant-loop-change l = ChangesNodes l.fn.tree l.tree
