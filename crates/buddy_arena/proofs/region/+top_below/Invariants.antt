use Rattle.buddy_arena.proofs.region.+top_below.Given as goal

abbrev pub decreases-top_below : goal.decreases-top_below
decreases-top_below l = l.below
