use Rattle.std.proofs.Common.{◌≡◌, ◌^◌, false, replicate}
use Rattle.buddy_arena.specs.Masks.{ord, free_of, IsMaskTree}
use Rattle.buddy_arena.specs.Fresh.{with_blocks}
use Rattle.buddy_arena.proofs.fresh.give_kept.Given as goal

abbrev pub invariant-loop-order : goal.invariant-loop-order
invariant-loop-order l = IsMaskTree l.base l.height l.masks × (free_of l.base l.height l.masks ≡ with_blocks l.order l.places (replicate (2 ^ ord l.base l.height) false))
