use Rattle.std.proofs.Common.{◌*◌, ◌-◌}
use Rattle.orig_tree.proofs.node.+tell.Given as goal

abbrev pub decreases-tell : goal.decreases-tell
decreases-tell g l = 2 * (129 - l.prefix.now.len)

abbrev pub decreases-tell_half : goal.decreases-tell_half
decreases-tell_half g l = 2 * (129 - l.prefix.now.len) - 1
