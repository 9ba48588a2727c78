use Rattle.std.proofs.Common.{◌++◌, ◌∙◌, arith, rules}
use Rattle.buddy_arena.proofs.Steps.{cut_up, join_right, some_masks, all_taken, kept_mask, wiped_word, head_root, two_bare, top_pow}
use Rattle.buddy_arena.proofs.region.+wipe.Goals as goal

pub wipe-bounds-s-0 : goal.wipe-bounds-s-0
wipe-bounds-s-0 t c = some_masks c.args.base c.args.height c.args.s.now c.requires.right

pub wipe-bounds-s-0-2 : goal.wipe-bounds-s-0-2
wipe-bounds-s-0-2 t c = some_masks c.args.base c.args.height c.args.s.now c.requires.right

pub wipe-returns-then-height-eq0-clause-right : goal.wipe-returns-then-height-eq0-clause-right
wipe-returns-then-height-eq0-clause-right t c = (wiped_word c.args.base c.args.height c.args.s.now c.if-height-eq0.true c.requires.right).0

pub wipe-returns-then-height-eq0-clause-bare : goal.wipe-returns-then-height-eq0-clause-bare
wipe-returns-then-height-eq0-clause-bare t c = (wiped_word c.args.base c.args.height c.args.s.now c.if-height-eq0.true c.requires.right).1

pub wipe-returns-then-s-eq0-clause-bare : goal.wipe-returns-then-s-eq0-clause-bare
wipe-returns-then-s-eq0-clause-bare t c = kept_mask c.args.base c.args.height c.args.s.now c.if-height-eq0.false ∙ c.if-s-eq0.true

pub wipe-wipe_parts-requires : goal.wipe-wipe_parts-requires
wipe-wipe_parts-requires t c =
    let k = cut_up c.args.base c.args.height c.args.s.now c.split_at_mut-head.result.0.now c.split_at_mut-head.result.1.now c.split_at_mut-low.result.0.now c.split_at_mut-low.result.1.now c.if-height-eq0.false c.requires.right c.split_at_mut-head.ensures.front c.split_at_mut-head.ensures.back c.split_at_mut-low.ensures.front c.split_at_mut-low.ensures.back in
    (search rules, (k.right, omega arith))

pub wipe-returns-clause-right : goal.wipe-returns-clause-right
wipe-returns-clause-right t c =
    let k = cut_up c.args.base c.args.height c.args.s.now c.split_at_mut-head.result.0.now c.split_at_mut-head.result.1.now c.split_at_mut-low.result.0.now c.split_at_mut-low.result.1.now c.if-height-eq0.false c.requires.right c.split_at_mut-head.ensures.front c.split_at_mut-head.ensures.back c.split_at_mut-low.ensures.front c.split_at_mut-low.ensures.back in
    join_right c.args.base c.args.height c.wipe_parts.new.root c.split_at_mut-head.result.0.now c.wipe_parts.new.low c.wipe_parts.new.high c.if-height-eq0.false k.one (c.wipe_parts.auto.low ∙ k.low_len) (c.wipe_parts.auto.high ∙ k.high_len) c.wipe_parts.ensures.right

pub wipe-returns-clause-bare : goal.wipe-returns-clause-bare
wipe-returns-clause-bare t c =
    let k = cut_up c.args.base c.args.height c.args.s.now c.split_at_mut-head.result.0.now c.split_at_mut-head.result.1.now c.split_at_mut-low.result.0.now c.split_at_mut-low.result.1.now c.if-height-eq0.false c.requires.right c.split_at_mut-head.ensures.front c.split_at_mut-head.ensures.back c.split_at_mut-low.ensures.front c.split_at_mut-low.ensures.back in
    kept_mask c.args.base c.args.height _ c.if-height-eq0.false ∙ head_root c.wipe_parts.new.root c.split_at_mut-head.result.0.now (c.wipe_parts.new.low ++ c.wipe_parts.new.high) k.one ∙ c.wipe_parts.ensures.bare

pub wipe_parts-returns-then-root-whole-clause-right : goal.wipe_parts-returns-then-root-whole-clause-right
wipe_parts-returns-then-root-whole-clause-right t c = (all_taken c.args.base c.args.at c.args.root.now c.args.low.now c.args.high.now c.requires.right (c.if-root-whole.true ∙ c.whole_mask-whole.ensures ∙ top_pow c.args.base c.args.at)).0

pub wipe_parts-returns-clause-right : goal.wipe_parts-returns-clause-right
wipe_parts-returns-clause-right t c = two_bare c.args.base c.args.at c.wipe.new.s c.wipe-2.new.s c.wipe.ensures.right c.wipe-2.ensures.right c.wipe.ensures.bare c.wipe-2.ensures.bare
