use Rattle.buddy_arena.proofs.Placing.{one_out}
use Rattle.buddy_arena.proofs.places.put.Goals as goal

pub write-requires-clause-out : goal.write-requires-clause-out
write-requires-clause-out g c = one_out c.args.arena.now c.args.place c.requires.out c.requires.within c.requires.sized
