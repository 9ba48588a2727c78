use Rattle.fib_moves.proofs.needs.+climb.Given as goal

abbrev pub decreases-climb : goal.decreases-climb
decreases-climb l = l.place.now.region.bits
