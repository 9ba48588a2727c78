use Rattle.std.proofs.Common.{◌*◌, ◌-◌}
use Rattle.orig_tree.proofs.merge.+merge.Given as goal

abbrev pub decreases-merge : goal.decreases-merge
decreases-merge g l = 2 * (129 - l.at.now.len)

abbrev pub decreases-merge_half : goal.decreases-merge_half
decreases-merge_half g l = 2 * (129 - l.at.now.len) - 1
