use Rattle.fib_addr.specs.Views.{prefix_as}
use Rattle.fib_rov.proofs.Lasts.{Behind}
use Rattle.fib_rov.proofs.index.last_cover.Given as goal

abbrev pub invariant-loop-at : goal.invariant-loop-at
invariant-loop-at l = Behind (prefix_as l.prefix) l.sorted l.count l.at

abbrev pub decreases-loop-at : goal.decreases-loop-at
decreases-loop-at l = l.at
