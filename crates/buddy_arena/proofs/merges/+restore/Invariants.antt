use Rattle.std.proofs.Common.{◌+◌, ◌*◌}
use Rattle.buddy_arena.proofs.merges.+restore.Given as goal

abbrev pub decreases-restore : goal.decreases-restore
decreases-restore l = 2 * l.height

abbrev pub decreases-restore_parts : goal.decreases-restore_parts
decreases-restore_parts l = 2 * l.at + 1
