use Rattle.std.proofs.Common.{◌*◌, ◌-◌}
use Rattle.orig_tree.proofs.build.+build.Given as goal

abbrev pub decreases-build : goal.decreases-build
decreases-build g l = 2 * (129 - l.at.now.len)

abbrev pub decreases-build_half : goal.decreases-build_half
decreases-build_half g l = 2 * (129 - l.at.now.len) - 1
