use Rattle.std.proofs.Common.{◌≡◌, ℕ, ◌<◌, Some, None, get_or}
use Rattle.poptrie_build.proofs.slots.+ask.Given as goal

abbrev pub decreases-ask : goal.decreases-ask
decreases-ask g l = l.depth

abbrev pub invariant-loop-slot : goal.invariant-loop-slot
invariant-loop-slot g l = (i : ℕ) → i < l.slot-index → get_or l.slots i None ≡ Some l.hop.0
