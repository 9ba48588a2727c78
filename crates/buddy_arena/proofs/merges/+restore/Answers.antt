use Rattle.std.proofs.Common.{◌≡◌, ℕ, ◌+◌, ◌-◌, ◌^◌, ◌≤◌, ◌<◌, true, false, sym, ap, ◌∙◌, subst, arith, rules}
use Rattle.buddy_arena.specs.Space.{marked, Aligned}
use Rattle.buddy_arena.specs.Masks.{ord, free_of}
use Rattle.buddy_arena.proofs.Masks.{ord_is}
use Rattle.buddy_arena.proofs.Steps.{cut_up, join_right, join_free, some_masks, ord_down, ord_zero, small_word, word_given, at_pow}
use Rattle.buddy_arena.proofs.Gives.{out_bare, all_given, down_low, down_high, up_low, up_high}
use Rattle.buddy_arena.proofs.merges.+restore.Goals as goal

pub restore-make_whole-requires-clause-bare : goal.restore-make_whole-requires-clause-bare
restore-make_whole-requires-clause-bare t c = out_bare c.args.base c.args.height c.args.k c.args.place c.args.s.now c.requires.right (let e : ord c.args.base c.args.height ≡ c.args.k = omega (arith, ord_is c.args.base c.args.height, c.if-k-base.true) in e) c.requires.within c.requires.out

pub restore-returns-then-k-base-clause-free : goal.restore-returns-then-k-base-clause-free
restore-returns-then-k-base-clause-free t c = all_given c.args.base c.args.height c.args.k c.args.place c.args.s.now c.make_whole.new.s (let e : ord c.args.base c.args.height ≡ c.args.k = omega (arith, ord_is c.args.base c.args.height, c.if-k-base.true) in e) c.requires.within c.make_whole.ensures.free

pub restore-bounds-s-0 : goal.restore-bounds-s-0
restore-bounds-s-0 t c = some_masks c.args.base c.args.height c.args.s.now c.requires.right

pub restore-span-requires-clause-within : goal.restore-span-requires-clause-within
restore-span-requires-clause-within t c = omega (arith, (subst (λ (i : ℕ). c.args.place + 2 ^ c.args.k ≤ 2 ^ i) (ord_zero c.args.base c.args.height c.if-height-eq0.true) c.requires.within), small_word c.args.base c.requires.orders.1)

pub restore-bounds-s-0-then-height-eq0 : goal.restore-bounds-s-0-then-height-eq0
restore-bounds-s-0-then-height-eq0 t c = some_masks c.args.base c.args.height c.args.s.now c.requires.right

pub restore-returns-then-height-eq0-clause-right : goal.restore-returns-then-height-eq0-clause-right
restore-returns-then-height-eq0-clause-right t c = (word_given c.args.base c.args.height c.args.place c.args.k c.span.result c.args.s.now c.if-height-eq0.true c.requires.right (subst (λ (i : ℕ). c.args.place + 2 ^ c.args.k ≤ 2 ^ i) (ord_zero c.args.base c.args.height c.if-height-eq0.true) c.requires.within) c.span.ensures).0

pub restore-returns-then-height-eq0-clause-free : goal.restore-returns-then-height-eq0-clause-free
restore-returns-then-height-eq0-clause-free t c = (word_given c.args.base c.args.height c.args.place c.args.k c.span.result c.args.s.now c.if-height-eq0.true c.requires.right (subst (λ (i : ℕ). c.args.place + 2 ^ c.args.k ≤ 2 ^ i) (ord_zero c.args.base c.args.height c.if-height-eq0.true) c.requires.within) c.span.ensures).1

pub restore-split_at_mut-head-requires : goal.restore-split_at_mut-head-requires
restore-split_at_mut-head-requires t c = some_masks c.args.base c.args.height c.args.s.now c.requires.right

pub restore-restore_parts-requires : goal.restore-restore_parts-requires
restore-restore_parts-requires t c =
    let k = cut_up c.args.base c.args.height c.args.s.now c.split_at_mut-head.result.0.now c.split_at_mut-head.result.1.now c.split_at_mut-low.result.0.now c.split_at_mut-low.result.1.now c.if-height-eq0.false c.requires.right c.split_at_mut-head.ensures.front c.split_at_mut-head.ensures.back c.split_at_mut-low.ensures.front c.split_at_mut-low.ensures.back in
    let e = ord_down c.args.base c.args.height c.if-height-eq0.false in
    (search rules, (k.right, ((omega arith, c.requires.orders.1, omega arith), (c.requires.aligned, (subst (λ (i : ℕ). c.args.place + 2 ^ c.args.k ≤ 2 ^ i) (sym e) c.requires.within, ap (marked c.args.place (2 ^ c.args.k) false) (sym k.free) ∙ c.requires.out ∙ k.free)))))

pub restore-returns-clause-right : goal.restore-returns-clause-right
restore-returns-clause-right t c =
    let k = cut_up c.args.base c.args.height c.args.s.now c.split_at_mut-head.result.0.now c.split_at_mut-head.result.1.now c.split_at_mut-low.result.0.now c.split_at_mut-low.result.1.now c.if-height-eq0.false c.requires.right c.split_at_mut-head.ensures.front c.split_at_mut-head.ensures.back c.split_at_mut-low.ensures.front c.split_at_mut-low.ensures.back in
    join_right c.args.base c.args.height c.restore_parts.new.root c.split_at_mut-head.result.0.now c.restore_parts.new.low c.restore_parts.new.high c.if-height-eq0.false k.one (c.restore_parts.auto.low ∙ k.low_len) (c.restore_parts.auto.high ∙ k.high_len) c.restore_parts.ensures.right

pub restore-returns-clause-free : goal.restore-returns-clause-free
restore-returns-clause-free t c =
    let k = cut_up c.args.base c.args.height c.args.s.now c.split_at_mut-head.result.0.now c.split_at_mut-head.result.1.now c.split_at_mut-low.result.0.now c.split_at_mut-low.result.1.now c.if-height-eq0.false c.requires.right c.split_at_mut-head.ensures.front c.split_at_mut-head.ensures.back c.split_at_mut-low.ensures.front c.split_at_mut-low.ensures.back in
    join_free c.args.base c.args.height c.restore_parts.new.root c.split_at_mut-head.result.0.now c.restore_parts.new.low c.restore_parts.new.high c.if-height-eq0.false k.one (c.restore_parts.auto.low ∙ k.low_len)
    ∙ c.restore_parts.ensures.free ∙ ap (marked c.args.place (2 ^ c.args.k) true) (sym k.free)

pub restore_parts-restore-requires : goal.restore_parts-restore-requires
restore_parts-restore-requires t c =
    let d = down_low c.args.base c.args.at c.args.k c.args.place c.args.root.now c.args.low.now c.args.high.now c.requires.right (omega (arith, ord_is c.args.base c.args.at)) c.requires.aligned c.requires.within c.requires.out (subst (λ (x : ℕ). c.args.place < x) (c.places_of-half.ensures ∙ at_pow c.args.base c.args.at) c.if-place-half.true) in
    (search rules, (c.requires.right.low_right, ((c.requires.orders.0, c.requires.orders.1, omega arith), (c.requires.aligned, (d.0, d.1)))))

pub restore_parts-returns-then-place-half-clause-free : goal.restore_parts-returns-then-place-half-clause-free
restore_parts-returns-then-place-half-clause-free t c =
    let d = down_low c.args.base c.args.at c.args.k c.args.place c.args.root.now c.args.low.now c.args.high.now c.requires.right (omega (arith, ord_is c.args.base c.args.at)) c.requires.aligned c.requires.within c.requires.out (subst (λ (x : ℕ). c.args.place < x) (c.places_of-half.ensures ∙ at_pow c.args.base c.args.at) c.if-place-half.true) in
    c.rejoin.ensures.free ∙ up_low c.args.base c.args.at c.args.k c.args.place c.args.root.now c.args.low.now c.args.high.now (free_of c.args.base c.args.at c.restore.new.s) c.requires.within c.requires.out d.0 c.restore.ensures.free

pub restore_parts-restore-requires-2 : goal.restore_parts-restore-requires-2
restore_parts-restore-requires-2 t c =
    let d = down_high c.args.base c.args.at c.args.k c.args.place c.args.root.now c.args.low.now c.args.high.now c.requires.right (omega (arith, ord_is c.args.base c.args.at)) c.requires.aligned c.requires.within c.requires.out (subst (λ (x : ℕ). x ≤ c.args.place) (c.places_of-half.ensures ∙ at_pow c.args.base c.args.at) c.if-place-half.false) in
    let e : c.args.place - 2 ^ ord c.args.base c.args.at ≡ c.args.place - c.places_of-half.result = (ap (λ x. c.args.place - x) (sym (c.places_of-half.ensures ∙ at_pow c.args.base c.args.at))) in
    let P : ℕ → Type 0 = λ p. Aligned c.args.k p × ((p + 2 ^ c.args.k ≤ 2 ^ ord c.args.base c.args.at) × (marked p (2 ^ c.args.k) false (free_of c.args.base c.args.at c.args.high.now) ≡ free_of c.args.base c.args.at c.args.high.now)) in
    let q = subst P e (d.0, (d.1, d.2)) in
    (search rules, (c.requires.right.high_right, ((c.requires.orders.0, c.requires.orders.1, omega arith), (q.0, (q.1.0, q.1.1)))))

pub restore_parts-returns-clause-free : goal.restore_parts-returns-clause-free
restore_parts-returns-clause-free t c = c.rejoin-2.ensures.free ∙ up_high c.args.base c.args.at c.args.k c.args.place c.args.root.now c.args.low.now c.args.high.now (free_of c.args.base c.args.at c.restore-2.new.s) c.requires.within c.requires.out (subst (λ (x : ℕ). x ≤ c.args.place) (c.places_of-half.ensures ∙ at_pow c.args.base c.args.at) c.if-place-half.false) (c.restore-2.ensures.free ∙ ap (λ p. marked p (2 ^ c.args.k) true (free_of c.args.base c.args.at c.args.high.now)) (sym (ap (λ x. c.args.place - x) (sym (c.places_of-half.ensures ∙ at_pow c.args.base c.args.at)))))
