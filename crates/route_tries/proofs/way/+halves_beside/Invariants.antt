use Rattle.std.proofs.Common.{◌+◌, ◌*◌}
use Rattle.route_tries.proofs.way.+halves_beside.Given as goal

abbrev pub decreases-halves_beside : goal.decreases-halves_beside
decreases-halves_beside g l = 2 * l.depth

abbrev pub decreases-tally_beside : goal.decreases-tally_beside
decreases-tally_beside g l = 2 * l.depth + 1
