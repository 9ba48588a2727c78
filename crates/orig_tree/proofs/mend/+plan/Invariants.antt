use Rattle.std.proofs.Common.{◌+◌, ◌*◌}
use Rattle.orig_tree.proofs.mend.+plan.Given as goal

abbrev pub decreases-plan : goal.decreases-plan
decreases-plan g l = 2 * l.path.left

abbrev pub decreases-plan_half : goal.decreases-plan_half
decreases-plan_half g l = 2 * l.path.left + 1
