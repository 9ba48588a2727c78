use Rattle.std.proofs.Common.{◌*◌, ◌-◌}
use Rattle.smalta_keep.proofs.pass.+list_differing.Given as goal

abbrev pub decreases-list_differing : goal.decreases-list_differing
decreases-list_differing l = 2 * l.place.now.region.bits

abbrev pub decreases-list_half : goal.decreases-list_half
decreases-list_half l = 2 * l.place.now.region.bits - 1
