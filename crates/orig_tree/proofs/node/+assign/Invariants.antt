use Rattle.orig_tree.proofs.node.+assign.Given as goal

abbrev pub decreases-assign : goal.decreases-assign
decreases-assign l = l.path.left
