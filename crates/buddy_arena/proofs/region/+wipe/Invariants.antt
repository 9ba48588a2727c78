use Rattle.std.proofs.Common.{◌+◌, ◌*◌}
use Rattle.buddy_arena.proofs.region.+wipe.Given as goal

abbrev pub decreases-wipe : goal.decreases-wipe
decreases-wipe l = 2 * l.height

abbrev pub decreases-wipe_parts : goal.decreases-wipe_parts
decreases-wipe_parts l = 2 * l.at + 1
