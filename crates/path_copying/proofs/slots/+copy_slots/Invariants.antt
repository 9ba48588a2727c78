use Rattle.path_copying.proofs.slots.+copy_slots.Given as goal

abbrev pub decreases-copy_slots : goal.decreases-copy_slots
decreases-copy_slots g l = l.depth
