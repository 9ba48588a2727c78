use Rattle.orig_tree.proofs.parts.+find.Given as goal

abbrev pub decreases-find : goal.decreases-find
decreases-find l = l.path.left
