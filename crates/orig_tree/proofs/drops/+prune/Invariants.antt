use Rattle.std.proofs.Common.{◌+◌, ◌*◌}
use Rattle.orig_tree.proofs.drops.+prune.Given as goal

abbrev pub decreases-prune : goal.decreases-prune
decreases-prune l = 2 * l.depth + 2

abbrev pub decreases-prune_half : goal.decreases-prune_half
decreases-prune_half l = 2 * l.depth + 1
