use Rattle.buddy_arena.proofs.fresh.give_at.Goals as goal

pub give_to-requires-clause-out : goal.give_to-requires-clause-out
give_to-requires-clause-out c = c.requires.out c.in-Some.place c.in-Some.is
