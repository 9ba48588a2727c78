use Rattle.orig_tree.proofs.count.+count_within.Given as goal

abbrev pub decreases-count_within : goal.decreases-count_within
decreases-count_within l = l.path.left
