use Rattle.std.proofs.Common.{◌+◌, ◌*◌}
use Rattle.poptrie_build.proofs.counts.+count_node.Given as goal

abbrev pub decreases-count_node : goal.decreases-count_node
decreases-count_node g l = 3 * g.R.Region.bits l.region.now + 1

abbrev pub decreases-tally_halves : goal.decreases-tally_halves
decreases-tally_halves g l = 3 * g.R.Region.bits l.region.now

abbrev pub decreases-tally_slots : goal.decreases-tally_slots
decreases-tally_slots g l = 3 * g.R.Region.bits l.region.now + 2
