use Rattle.orig_tree.proofs.parts.+route_at.Given as goal

abbrev pub decreases-route_at : goal.decreases-route_at
decreases-route_at l = l.path.left
