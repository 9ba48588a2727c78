use Rattle.orig_tree.proofs.node.+answer.Given as goal

abbrev pub decreases-answer : goal.decreases-answer
decreases-answer l = l.path.left
