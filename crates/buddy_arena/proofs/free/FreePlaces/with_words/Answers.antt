use Rattle.std.proofs.Common.{◌+◌, sym, arith}
use Rattle.buddy_arena.proofs.Kept.{all_fresh}
use Rattle.buddy_arena.proofs.Masks.{ord_is}
use Rattle.buddy_arena.proofs.free.FreePlaces.with_words.Goals as goal

pub invariant_of-result : goal.invariant_of-result
invariant_of-result c = (c.requires.few.0, omega arith, (all_fresh (c.args.base + c.args.height) c.args.base c.args.height c.in_ok-masks.masks.items c.keep_whole.new.places (sym (ord_is c.args.base c.args.height)) (omega arith) c.in_ok-masks.ensures.right c.in_ok-masks.ensures.bare c.keep_whole.ensures.long c.keep_whole.ensures.whole c.keep_whole.ensures.none).0)

pub returns-clause-free : goal.returns-clause-free
returns-clause-free c = (all_fresh (c.args.base + c.args.height) c.args.base c.args.height c.in_ok-masks.masks.items c.keep_whole.new.places (sym (ord_is c.args.base c.args.height)) (omega arith) c.in_ok-masks.ensures.right c.in_ok-masks.ensures.bare c.keep_whole.ensures.long c.keep_whole.ensures.whole c.keep_whole.ensures.none).1
