use Rattle.fib_addr.specs.Views.{prefix_as}
use Rattle.smalta_keep.proofs.Near.{within_itself}
use Rattle.smalta_keep.proofs.reach.join.Goals as goal

pub returns-then-is_within-clause-left : goal.returns-then-is_within-clause-left
returns-then-is_within-clause-left c = within_itself (prefix_as c.args.left)

pub returns-then-is_within-2-clause-right : goal.returns-then-is_within-2-clause-right
returns-then-is_within-2-clause-right c = within_itself (prefix_as c.args.right)
