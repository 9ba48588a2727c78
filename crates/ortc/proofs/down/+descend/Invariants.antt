use Rattle.ortc.proofs.down.+descend.Given as goal

abbrev pub decreases-descend : goal.decreases-descend
decreases-descend g l = l.region.now.bits
