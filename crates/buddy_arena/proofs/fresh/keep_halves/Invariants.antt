use Rattle.buddy_arena.proofs.Kept.{Halving}
use Rattle.buddy_arena.proofs.fresh.keep_halves.Given as goal

abbrev pub invariant-loop-at : goal.invariant-loop-at
invariant-loop-at l = Halving l.order l.at l.block.place l.initial.places l.places
