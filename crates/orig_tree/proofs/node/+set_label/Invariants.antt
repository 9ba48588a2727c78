use Rattle.orig_tree.proofs.node.+set_label.Given as goal

abbrev pub decreases-set_label : goal.decreases-set_label
decreases-set_label l = l.path.left
