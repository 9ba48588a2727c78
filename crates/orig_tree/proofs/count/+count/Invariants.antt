use Rattle.std.proofs.Common.{◌+◌, ◌*◌}
use Rattle.orig_tree.proofs.count.+count.Given as goal

abbrev pub decreases-count : goal.decreases-count
decreases-count l = 2 * l.depth

abbrev pub decreases-count_half : goal.decreases-count_half
decreases-count_half l = 2 * l.depth + 1
