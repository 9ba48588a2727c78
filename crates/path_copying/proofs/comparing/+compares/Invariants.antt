use Rattle.std.proofs.Common.{◌+◌, ◌*◌, ℕ, Bool, List}
use Rattle.poptrie_build.specs.Build.{StandsIn}
use Rattle.path_copying.proofs.Same.{AlikeBelow}
use Rattle.path_copying.proofs.comparing.+compares.Given as goal

abbrev pub decreases-is_same : goal.decreases-is_same
decreases-is_same g l = 2 * g.R.Region.bits l.region.now + 1

abbrev pub decreases-is_child_same : goal.decreases-is_child_same
decreases-is_child_same g l = 2 * g.R.Region.bits l.region.now

abbrev pub invariant-is_same-loop-slot : goal.invariant-is_same-loop-slot
invariant-is_same-loop-slot g l = (k : ℕ) (N L : ℕ → Bool) (h : List Bool → ℕ) → StandsIn k l.nodes.cells N l.leaves.cells L l.node (g.R.Region.bits l.region) h → AlikeBelow (g.R.Region.bits l.region) (g.R.Region.answers l.region) h l.slot
