use Rattle.std.proofs.Common.{◌+◌, ◌*◌}
use Rattle.route_tries.proofs.way.+count_way.Given as goal

abbrev pub decreases-count_way : goal.decreases-count_way
decreases-count_way g l = 3 * g.R.Region.bits l.region.now + 1

abbrev pub decreases-tally_halves : goal.decreases-tally_halves
decreases-tally_halves g l = 3 * g.R.Region.bits l.region.now

abbrev pub decreases-tally_way : goal.decreases-tally_way
decreases-tally_way g l = 3 * g.R.Region.bits l.region.now + 2
