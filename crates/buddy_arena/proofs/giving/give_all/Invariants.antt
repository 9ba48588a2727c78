use Rattle.buddy_arena.proofs.Given_back.{Given}
use Rattle.buddy_arena.proofs.giving.give_all.Given as goal

abbrev pub invariant-loop-i : goal.invariant-loop-i
invariant-loop-i g l = Given l.blocks l.fn.arena l.arena l.i
