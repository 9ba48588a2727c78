use Rattle.std.proofs.Common.{◌+◌, ◌*◌}
use Rattle.poptrie_build.proofs.surveying.+add_halves.Given as goal

abbrev pub decreases-add_halves : goal.decreases-add_halves
decreases-add_halves g l = 2 * l.depth

abbrev pub decreases-add_slots : goal.decreases-add_slots
decreases-add_slots g l = 2 * l.depth + 1
