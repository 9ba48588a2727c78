use Rattle.buddy_arena.proofs.word.+orders.Given as goal

abbrev pub decreases-orders : goal.decreases-orders
decreases-orders l = l.k
