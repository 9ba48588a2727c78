use Rattle.orig_tree.proofs.node.+inherited.Given as goal

abbrev pub decreases-inherited : goal.decreases-inherited
decreases-inherited l = l.path.left
