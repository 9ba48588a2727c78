use Rattle.poptrie_update.specs.Lives.{stores_left}
use Rattle.lookup_tests.proofs.live.+finish.Given as goal

abbrev pub decreases-finish : goal.decreases-finish
decreases-finish l = stores_left l.live.now
