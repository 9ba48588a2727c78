use Rattle.orig_tree.proofs.node.+is_node.Given as goal

abbrev pub decreases-is_node : goal.decreases-is_node
decreases-is_node l = l.path.left
