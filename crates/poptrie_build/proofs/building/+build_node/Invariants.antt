use Rattle.buddy_arena.specs.Places.{Keeps, is_out}
use Rattle.poptrie_build.proofs.Going.{Going, state}
use Rattle.poptrie_build.proofs.Counting.{Counted}
use Rattle.poptrie_build.proofs.Parted.{Parted}
use Rattle.poptrie_build.proofs.building.+build_node.Given as goal

abbrev pub decreases-build_node : goal.decreases-build_node
decreases-build_node g l = g.R.Region.bits l.region.now

abbrev pub invariant-loop-slot : goal.invariant-loop-slot
invariant-loop-slot g l =
    Going l.made.vector l.made.leafvec l.base0 l.base1 (g.R.Region.bits l.region) (g.R.Region.answers l.region)
    (state l.fn.nodes.cells (is_out l.fn.nodes.free) l.fn.leaves.cells (is_out l.fn.leaves.free))
    (state l.initial.nodes.cells (is_out l.initial.nodes.free) l.initial.leaves.cells (is_out l.initial.leaves.free))
    (state l.nodes.cells (is_out l.nodes.free) l.leaves.cells (is_out l.leaves.free))
    l.slot
    × Counted (g.R.Region.bits l.region) (g.R.Region.answers l.region) l.fn.nodes l.nodes l.fn.leaves l.leaves l.slot
    × Keeps 0 l.initial.leaves.cells (is_out l.initial.leaves.free) l.leaves.cells (is_out l.leaves.free)
    × Parted l.made.vector l.base1
    (state l.initial.nodes.cells (is_out l.initial.nodes.free) l.initial.leaves.cells (is_out l.initial.leaves.free))
    (state l.nodes.cells (is_out l.nodes.free) l.leaves.cells (is_out l.leaves.free))
    l.slot
