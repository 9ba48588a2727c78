use Rattle.orig_tree.proofs.parts.+tell_within.Given as goal

abbrev pub decreases-tell_within : goal.decreases-tell_within
decreases-tell_within g l = l.path.left
