use Rattle.route_tries.proofs.deep.+another.Given as goal

abbrev pub decreases-another : goal.decreases-another
decreases-another g l = l.left
