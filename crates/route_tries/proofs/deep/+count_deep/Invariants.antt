use Rattle.route_tries.proofs.deep.+count_deep.Given as goal

abbrev pub decreases-count_deep : goal.decreases-count_deep
decreases-count_deep g l = l.left
