use Rattle.std.proofs.Common.{length}
use Rattle.lookup_tests.proofs.live.+come_to.Given as goal

abbrev pub decreases-come_to : goal.decreases-come_to
decreases-come_to l = length l.updates.now
