use Rattle.std.proofs.Common.{◌+◌, ◌*◌}
use Rattle.orig_tree.proofs.drops.+trim.Given as goal

abbrev pub decreases-trim : goal.decreases-trim
decreases-trim l = 2 * l.depth + 2

abbrev pub decreases-trim_half : goal.decreases-trim_half
decreases-trim_half l = 2 * l.depth + 1
