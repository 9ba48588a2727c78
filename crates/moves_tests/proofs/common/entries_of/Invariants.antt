use Rattle.std.proofs.Common.{map}
use Rattle.fib_addr.specs.Views.{entry_as}
use Rattle.moves_check.specs.Views.{AreEntriesOf}
use Rattle.moves_tests.proofs.common.entries_of.Given as goal

abbrev pub invariant-loop-net : goal.invariant-loop-net
invariant-loop-net l = AreEntriesOf l.family (map entry_as l.list.items)
