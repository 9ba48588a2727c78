use Rattle.path_copying.proofs.Writing.{Writing}
use Rattle.path_copying.proofs.children.write_slots.Given as goal

abbrev pub invariant-loop-slot : goal.invariant-loop-slot
invariant-loop-slot l = Writing l.node l.kinds l.kids l.fn.nodes l.nodes l.fn.leaves l.leaves l.slot
