use Rattle.buddy_arena.proofs.fresh.+greatest_below.Given as goal

abbrev pub decreases-greatest_below : goal.decreases-greatest_below
decreases-greatest_below l = l.below
