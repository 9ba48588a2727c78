use Rattle.poptrie_update.specs.Cursors.{Dues, FitsAll}
use Rattle.lookup_tests.proofs.cursors.starts.Given as goal

abbrev pub invariant-loop-number : goal.invariant-loop-number
invariant-loop-number l = (due : Dues) × FitsAll l.live l.cursors due
