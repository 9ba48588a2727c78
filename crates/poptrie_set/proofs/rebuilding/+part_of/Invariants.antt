use Rattle.poptrie_set.proofs.rebuilding.+part_of.Given as goal

abbrev pub decreases-part_of : goal.decreases-part_of
decreases-part_of g l = l.depth
