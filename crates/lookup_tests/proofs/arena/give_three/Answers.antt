use Rattle.buddy_arena.proofs.Others.{given_still}
use Rattle.lookup_tests.proofs.arena.give_three.Goals as goal

pub give-requires-2 : goal.give-requires-2
give-requires-2 c = given_still c.args.arena.now.order c.give.new.self.order c.args.arena.now.free c.give.new.self.free c.args.c.place c.args.c.order c.args.b.place c.args.b.order c.give.ensures.kept.0 c.give.ensures.free c.requires.apart.2 (c.requires.outs.1)

pub give-requires-3 : goal.give-requires-3
give-requires-3 c = given_still c.give.new.self.order c.give-2.new.self.order c.give.new.self.free c.give-2.new.self.free c.args.b.place c.args.b.order c.args.a.place c.args.a.order c.give-2.ensures.kept.0 c.give-2.ensures.free c.requires.apart.0 (given_still c.args.arena.now.order c.give.new.self.order c.args.arena.now.free c.give.new.self.free c.args.c.place c.args.c.order c.args.a.place c.args.a.order c.give.ensures.kept.0 c.give.ensures.free c.requires.apart.1 (c.requires.outs.0))
