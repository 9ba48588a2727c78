use Rattle.std.proofs.Common.{map}
use Rattle.fib_delta.specs.Views.{change_as}
use Rattle.moves_check.specs.Views.{AreChangesOf}
use Rattle.moves_tests.proofs.common.changes_of.Given as goal

abbrev pub invariant-loop-change : goal.invariant-loop-change
invariant-loop-change l = AreChangesOf l.family (map change_as l.list.items)
