use Rattle.std.proofs.Common.{refl}
use Rattle.buddy_arena.proofs.Given_back.{given_out, given_next}
use Rattle.buddy_arena.proofs.giving.give_all.Goals as goal

pub give-requires : goal.give-requires
give-requires g c = given_out c.args.blocks.now c.args.arena.now c.loop-i.arena c.loop-i.i _ (record { place = 0; order = 0 }) refl c.loop-i-test.true c.loop-i.invariant

pub loop-i-preserved : goal.loop-i-preserved
loop-i-preserved g c = given_next c.args.blocks.now c.args.arena.now c.loop-i.arena c.loop-i.i _ (record { place = 0; order = 0 }) refl c.loop-i-test.true c.loop-i.invariant c.give.new.self c.give.ensures.free c.give.ensures.kept.0 c.give.ensures.kept.1 c.give.ensures.kept.2
