use Rattle.std.proofs.Common.{◌+◌, ◌-◌, ◌≤◌, length}
use Rattle.fib_addr.proofs.Merging.{CommonLeft}
use Rattle.fib_addr.proofs.merge.common_hops.Given as goal

abbrev pub invariant-loop-i : goal.invariant-loop-i
invariant-loop-i l = (l.i ≤ length l.low) × (l.j ≤ length l.high) × CommonLeft l.hops.items l.i l.j l.low l.high

abbrev pub decreases-loop-i : goal.decreases-loop-i
decreases-loop-i l = (length l.low - l.i) + (length l.high - l.j)
