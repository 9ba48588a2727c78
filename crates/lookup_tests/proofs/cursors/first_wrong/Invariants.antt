use Rattle.poptrie_update.specs.Cursors.{Dues, FitsAll}
use Rattle.lookup_tests.proofs.cursors.first_wrong.Given as goal

abbrev pub invariant-loop-place : goal.invariant-loop-place
invariant-loop-place l = (due : Dues) × FitsAll l.live l.cursors due
