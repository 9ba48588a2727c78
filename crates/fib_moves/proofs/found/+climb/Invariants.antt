use Rattle.std.proofs.Common.{◌+◌, ◌*◌}
use Rattle.fib_moves.proofs.found.+climb.Given as goal

abbrev pub decreases-climb_half : goal.decreases-climb_half
decreases-climb_half l = 2 * l.place.now.region.bits + 1

abbrev pub decreases-climb : goal.decreases-climb
decreases-climb l = 2 * l.place.now.region.bits
