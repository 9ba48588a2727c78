use Rattle.std.proofs.Common.{◌+◌, ◌*◌}
use Rattle.buddy_arena.proofs.splits.+carve.Given as goal

abbrev pub decreases-carve : goal.decreases-carve
decreases-carve l = 2 * l.height

abbrev pub decreases-carve_parts : goal.decreases-carve_parts
decreases-carve_parts l = 2 * l.at + 1
