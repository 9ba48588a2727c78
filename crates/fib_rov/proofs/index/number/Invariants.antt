use Rattle.std.proofs.Common.{◌≡◌, ◌++◌, drop}
use Rattle.fib_rov.specs.Index.{numbered}
use Rattle.fib_rov.proofs.index.number.Given as goal

abbrev pub invariant-loop-number : goal.invariant-loop-number
invariant-loop-number l = l.vrps.items ++ numbered l.number (drop l.number l.list) ≡ numbered 0 l.list
