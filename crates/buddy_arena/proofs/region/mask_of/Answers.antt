use Rattle.std.proofs.Common.{sym, ◌∙◌}
use Rattle.buddy_arena.specs.Space.{blocks}
use Rattle.buddy_arena.specs.Words.{word_free}
use Rattle.buddy_arena.specs.Masks.{whole_arena}
use Rattle.buddy_arena.proofs.Bits.{orders_are}
use Rattle.buddy_arena.proofs.Steps.{some_masks, word_small, word_mask, kept_mask}
use Rattle.buddy_arena.proofs.region.mask_of.Goals as goal

pub bounds-s-0 : goal.bounds-s-0
bounds-s-0 c = some_masks c.args.base c.args.height c.args.s.now c.requires.right

pub orders-requires-clause-fits : goal.orders-requires-clause-fits
orders-requires-clause-fits c = word_small c.args.base c.args.height c.args.s.now c.if-height-eq0.true c.requires.right

pub returns-then-height-eq0 : goal.returns-then-height-eq0
returns-then-height-eq0 c = orders_are c.orders.result (blocks c.args.base (word_free c.args.base (whole_arena c.args.s.now))) c.orders.ensures ∙ sym (word_mask c.args.base c.args.height c.args.s.now c.if-height-eq0.true)

pub bounds-s-0-2 : goal.bounds-s-0-2
bounds-s-0-2 c = some_masks c.args.base c.args.height c.args.s.now c.requires.right

pub returns : goal.returns
returns c = sym (kept_mask c.args.base c.args.height c.args.s.now c.if-height-eq0.false)
