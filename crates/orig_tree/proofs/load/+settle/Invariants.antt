use Rattle.std.proofs.Common.{◌+◌, ◌*◌}
use Rattle.orig_tree.proofs.load.+settle.Given as goal

abbrev pub decreases-settle : goal.decreases-settle
decreases-settle l = 2 * l.depth

abbrev pub decreases-settle_half : goal.decreases-settle_half
decreases-settle_half l = 2 * l.depth + 1
