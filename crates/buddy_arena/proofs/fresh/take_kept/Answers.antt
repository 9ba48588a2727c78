use Rattle.std.proofs.Common.{refl}
use Rattle.buddy_arena.specs.Fresh.{fresh_free}
use Rattle.buddy_arena.proofs.Kept.{kept_lies, kept_none, kept_take, in_31}
use Rattle.buddy_arena.proofs.fresh.take_kept.Goals as goal

pub keep_halves-requires-clause-within : goal.keep_halves-requires-clause-within
keep_halves-requires-clause-within c = in_31 c.args.whole c.in-Some.found.place c.in-Some.found.order c.requires.few (kept_lies c.args.whole (fresh_free c.args.whole c.args.places.now) c.args.places.now c.requires.kept c.in-Some.found.order c.in-Some.found.place c.in-Some.ensures.found.there).1

pub returns-in-Some-clause-kept : goal.returns-in-Some-clause-kept
returns-in-Some-clause-kept c = (kept_take c.args.whole c.args.order c.in-Some.found.order c.in-Some.found.place c.args.places.now c.keep_halves.new.places c.requires.kept c.in-Some.ensures.found c.keep_halves.ensures.splits).kept

pub returns-in-Some-clause-ok : goal.returns-in-Some-clause-ok
returns-in-Some-clause-ok c = (refl, (kept_take c.args.whole c.args.order c.in-Some.found.order c.in-Some.found.place c.args.places.now c.keep_halves.new.places c.requires.kept c.in-Some.ensures.found c.keep_halves.ensures.splits).takes)

pub returns-in-None-clause-full : goal.returns-in-None-clause-full
returns-in-None-clause-full c = (refl, λ i l. kept_none c.args.whole (fresh_free c.args.whole c.args.places.now) c.args.places.now c.requires.kept i (c.in-None.ensures.none i l), c.largest_kept-largest.ensures)
