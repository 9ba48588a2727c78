use Rattle.std.proofs.Common.{◌+◌, ◌*◌}
use Rattle.orig_tree.proofs.mend.+mend.Given as goal

abbrev pub decreases-mend : goal.decreases-mend
decreases-mend g l = 2 * l.depth

abbrev pub decreases-mend_half : goal.decreases-mend_half
decreases-mend_half g l = 2 * l.depth + 1
