use Rattle.std.proofs.Common.{◌+◌, ◌*◌}
use Rattle.path_copying.specs.Ways.{bits_left}
use Rattle.path_copying.proofs.Renewing.{Copying}
use Rattle.path_copying.proofs.Asked.{Asked}
use Rattle.path_copying.proofs.copying.+copies.Given as goal

abbrev pub decreases-copy_node : goal.decreases-copy_node
decreases-copy_node g l = 2 * g.R.Region.bits l.region.now + 1

abbrev pub decreases-copy_slot : goal.decreases-copy_slot
decreases-copy_slot g l = 2 * g.R.Region.bits l.region.now

abbrev pub invariant-copy_node-loop-slot : goal.invariant-copy_node-loop-slot
invariant-copy_node-loop-slot g l =
    Copying (g.R.Region.bits l.region) (bits_left l.way) (g.R.Region.answers l.region) l.kinds l.fn.was l.fn.arenas.nodes l.fn.arenas.node_blocks l.fn.arenas.leaves l.fn.arenas.leaf_blocks l.initial.arenas.nodes l.initial.arenas.node_blocks l.initial.arenas.leaves l.initial.arenas.leaf_blocks l.arenas.nodes l.arenas.node_blocks l.arenas.leaves l.arenas.leaf_blocks l.kids l.base1 l.made.nodes l.base0 l.made.leaves l.slot
    × Asked (g.R.Region.bits l.region) (g.R.Region.answers l.region) l.made.nodes l.made.leaves l.fn.was l.fn.arenas.nodes l.fn.arenas.leaves l.arenas.nodes l.arenas.leaves l.kids l.slot
