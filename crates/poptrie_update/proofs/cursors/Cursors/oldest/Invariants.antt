use Rattle.poptrie_update.proofs.First.{IsFirstTo}
use Rattle.poptrie_update.proofs.cursors.Cursors.oldest.Given as goal

abbrev pub invariant-loop-number : goal.invariant-loop-number
invariant-loop-number l = IsFirstTo l.oldest l.lookup-items l.number
