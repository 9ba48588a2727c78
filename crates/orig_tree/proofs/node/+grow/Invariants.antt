use Rattle.orig_tree.proofs.node.+grow.Given as goal

abbrev pub decreases-grow : goal.decreases-grow
decreases-grow l = l.path.left
