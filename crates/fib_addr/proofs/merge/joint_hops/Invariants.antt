use Rattle.std.proofs.Common.{◌+◌, ◌-◌, ◌≤◌, [], length}
use Rattle.fib_addr.proofs.Merging.{AllLeft, CommonLeft}
use Rattle.fib_addr.proofs.merge.joint_hops.Given as goal

abbrev pub invariant-loop-i : goal.invariant-loop-i
invariant-loop-i l = record { low_in : l.i ≤ length l.low; high_in : l.j ≤ length l.high; all : AllLeft l.hops.items l.i l.j l.low l.high; none : CommonLeft [] l.i l.j l.low l.high }

abbrev pub decreases-loop-i : goal.decreases-loop-i
decreases-loop-i l = (length l.low - l.i) + (length l.high - l.j)
