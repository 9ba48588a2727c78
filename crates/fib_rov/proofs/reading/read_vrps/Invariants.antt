use Rattle.std.proofs.Common.{map}
use Rattle.fib_rov.specs.Views.{vrp_as}
use Rattle.fib_rov.proofs.ReadLines.{Left}
use Rattle.fib_rov.proofs.reading.read_vrps.Given as goal

abbrev pub invariant-loop-line : goal.invariant-loop-line
invariant-loop-line l = Left (map vrp_as l.list.items) l.line_number l.line-iterator l.fn.text
