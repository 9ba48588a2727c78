use Rattle.orig_tree.proofs.node.+grow_label.Given as goal

abbrev pub decreases-grow_label : goal.decreases-grow_label
decreases-grow_label g l = l.path.left
