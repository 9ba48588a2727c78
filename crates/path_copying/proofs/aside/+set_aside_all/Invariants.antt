use Rattle.path_copying.proofs.Setting_aside.{Going}
use Rattle.path_copying.proofs.aside.+set_aside_all.Given as goal

abbrev pub decreases-set_aside_all : goal.decreases-set_aside_all
decreases-set_aside_all l = l.bits

abbrev pub invariant-loop-slot : goal.invariant-loop-slot
invariant-loop-slot l = Going l.bits l.node l.nodes l.fn.node_blocks l.fn.leaf_blocks l.node_blocks l.leaf_blocks l.kids l.slot
