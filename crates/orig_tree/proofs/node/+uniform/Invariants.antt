use Rattle.orig_tree.proofs.node.+uniform.Given as goal

abbrev pub decreases-uniform : goal.decreases-uniform
decreases-uniform l = l.path.left
