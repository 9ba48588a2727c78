use Rattle.std.proofs.Common.{◌≡◌, ℕ, suc, ◌+◌, ◌-◌, ◌^◌, ◌/◌, ◌≤◌, ◌++◌, true, false, sym, ap, ◌∙◌, refl, subst, arith, rules, replicate}
use Rattle.std.specs.Prelude.{bit_or, bit_and}
use Rattle.buddy_arena.specs.Space.{blocks, has_order, first_block, marked}
use Rattle.buddy_arena.specs.Words.{word_free}
use Rattle.buddy_arena.specs.Masks.{ord, whole_arena, free_of, free_parts}
use Rattle.buddy_arena.proofs.Bits.{double}
use Rattle.buddy_arena.proofs.Firsts.{order_fits}
use Rattle.buddy_arena.proofs.Masks.{ord_is, parts_mixed, free_len}
use Rattle.buddy_arena.proofs.Steps.{cut_up, join_right, join_free, first_of_whole, some_masks, empty_halves, all_taken, two_wholes, place_whole, has_low, has_high, place_low, place_high, low_joined, high_joined, ord_down, ord_zero, word_blocks, word_within, small_word, word_taken, word_small, has_whole, small_half, or_of, top_pow, at_pow}
use Rattle.buddy_arena.proofs.splits.+carve.Goals as goal

pub carve-bounds-s-0 : goal.carve-bounds-s-0
carve-bounds-s-0 t c = some_masks c.args.base c.args.height c.args.s.now c.requires.right

pub carve-first_place-place-requires-clause-fits : goal.carve-first_place-place-requires-clause-fits
carve-first_place-place-requires-clause-fits t c = word_small c.args.base c.args.height c.args.s.now c.if-height-eq0.true c.requires.right

pub carve-first_place-place-requires-clause-small : goal.carve-first_place-place-requires-clause-small
carve-first_place-place-requires-clause-small t c = omega (arith, order_fits c.args.base c.args.m (word_free c.args.base (whole_arena c.args.s.now)) (ap (has_order c.args.m) (word_blocks c.args.base c.args.height c.args.s.now c.if-height-eq0.true) ∙ c.requires.has))

pub carve-first_place-place-requires-clause-there : goal.carve-first_place-place-requires-clause-there
carve-first_place-place-requires-clause-there t c = ap (has_order c.args.m) (word_blocks c.args.base c.args.height c.args.s.now c.if-height-eq0.true) ∙ c.requires.has

pub carve-span-taken-requires-clause-few : goal.carve-span-taken-requires-clause-few
carve-span-taken-requires-clause-few t c = omega (arith, order_fits c.args.base c.args.m (word_free c.args.base (whole_arena c.args.s.now)) (ap (has_order c.args.m) (word_blocks c.args.base c.args.height c.args.s.now c.if-height-eq0.true) ∙ c.requires.has))

pub carve-span-taken-requires-clause-within : goal.carve-span-taken-requires-clause-within
carve-span-taken-requires-clause-within t c = omega (arith, word_within c.args.base c.args.m c.args.k c.first_place-place.result (whole_arena c.args.s.now) c.requires.orders.0 (ap (has_order c.args.m) (word_blocks c.args.base c.args.height c.args.s.now c.if-height-eq0.true) ∙ c.requires.has) c.first_place-place.ensures.place, small_word c.args.base c.requires.orders.1)

pub carve-bounds-s-0-then-height-eq0 : goal.carve-bounds-s-0-then-height-eq0
carve-bounds-s-0-then-height-eq0 t c = some_masks c.args.base c.args.height c.args.s.now c.requires.right

pub carve-returns-then-height-eq0-clause-right : goal.carve-returns-then-height-eq0-clause-right
carve-returns-then-height-eq0-clause-right t c = (word_taken c.args.base c.args.height c.first_place-place.result c.args.k c.span-taken.result c.args.s.now c.if-height-eq0.true c.requires.right (word_within c.args.base c.args.m c.args.k c.first_place-place.result (whole_arena c.args.s.now) c.requires.orders.0 (ap (has_order c.args.m) (word_blocks c.args.base c.args.height c.args.s.now c.if-height-eq0.true) ∙ c.requires.has) c.first_place-place.ensures.place) c.span-taken.ensures).0

pub carve-returns-then-height-eq0-clause-place : goal.carve-returns-then-height-eq0-clause-place
carve-returns-then-height-eq0-clause-place t c = c.first_place-place.ensures.place ∙ ap (first_block c.args.m) (word_blocks c.args.base c.args.height c.args.s.now c.if-height-eq0.true)

pub carve-returns-then-height-eq0-clause-within : goal.carve-returns-then-height-eq0-clause-within
carve-returns-then-height-eq0-clause-within t c = subst (λ (i : ℕ). c.first_place-place.result + 2 ^ c.args.k ≤ 2 ^ i) (sym (ord_zero c.args.base c.args.height c.if-height-eq0.true)) (word_within c.args.base c.args.m c.args.k c.first_place-place.result (whole_arena c.args.s.now) c.requires.orders.0 (ap (has_order c.args.m) (word_blocks c.args.base c.args.height c.args.s.now c.if-height-eq0.true) ∙ c.requires.has) c.first_place-place.ensures.place)

pub carve-returns-then-height-eq0-clause-free : goal.carve-returns-then-height-eq0-clause-free
carve-returns-then-height-eq0-clause-free t c = (word_taken c.args.base c.args.height c.first_place-place.result c.args.k c.span-taken.result c.args.s.now c.if-height-eq0.true c.requires.right (word_within c.args.base c.args.m c.args.k c.first_place-place.result (whole_arena c.args.s.now) c.requires.orders.0 (ap (has_order c.args.m) (word_blocks c.args.base c.args.height c.args.s.now c.if-height-eq0.true) ∙ c.requires.has) c.first_place-place.ensures.place) c.span-taken.ensures).1

pub carve-split_at_mut-head-requires : goal.carve-split_at_mut-head-requires
carve-split_at_mut-head-requires t c = some_masks c.args.base c.args.height c.args.s.now c.requires.right

pub carve-carve_parts-requires : goal.carve-carve_parts-requires
carve-carve_parts-requires t c =
    let k = cut_up c.args.base c.args.height c.args.s.now c.split_at_mut-head.result.0.now c.split_at_mut-head.result.1.now c.split_at_mut-low.result.0.now c.split_at_mut-low.result.1.now c.if-height-eq0.false c.requires.right c.split_at_mut-head.ensures.front c.split_at_mut-head.ensures.back c.split_at_mut-low.ensures.front c.split_at_mut-low.ensures.back in
    let e = ord_down c.args.base c.args.height c.if-height-eq0.false in
    (search rules, (k.right, ((c.requires.orders.0, c.requires.orders.1, omega arith), ap (λ i. has_order c.args.m (blocks i (free_parts c.args.base (c.args.height - 1) (whole_arena c.split_at_mut-head.result.0.now) c.split_at_mut-low.result.0.now c.split_at_mut-low.result.1.now))) e ∙ ap (λ f. has_order c.args.m (blocks (ord c.args.base c.args.height) f)) (sym k.free) ∙ c.requires.has)))

pub carve-returns-clause-right : goal.carve-returns-clause-right
carve-returns-clause-right t c =
    let k = cut_up c.args.base c.args.height c.args.s.now c.split_at_mut-head.result.0.now c.split_at_mut-head.result.1.now c.split_at_mut-low.result.0.now c.split_at_mut-low.result.1.now c.if-height-eq0.false c.requires.right c.split_at_mut-head.ensures.front c.split_at_mut-head.ensures.back c.split_at_mut-low.ensures.front c.split_at_mut-low.ensures.back in
    join_right c.args.base c.args.height c.carve_parts.new.root c.split_at_mut-head.result.0.now c.carve_parts.new.low c.carve_parts.new.high c.if-height-eq0.false k.one (c.carve_parts.auto.low ∙ k.low_len) (c.carve_parts.auto.high ∙ k.high_len) c.carve_parts.ensures.right

pub carve-returns-clause-place : goal.carve-returns-clause-place
carve-returns-clause-place t c =
    let k = cut_up c.args.base c.args.height c.args.s.now c.split_at_mut-head.result.0.now c.split_at_mut-head.result.1.now c.split_at_mut-low.result.0.now c.split_at_mut-low.result.1.now c.if-height-eq0.false c.requires.right c.split_at_mut-head.ensures.front c.split_at_mut-head.ensures.back c.split_at_mut-low.ensures.front c.split_at_mut-low.ensures.back in
    let e = ord_down c.args.base c.args.height c.if-height-eq0.false in
    c.carve_parts.ensures.place
    ∙ ap (λ i. first_block c.args.m (blocks i (free_parts c.args.base (c.args.height - 1) (whole_arena c.split_at_mut-head.result.0.now) c.split_at_mut-low.result.0.now c.split_at_mut-low.result.1.now))) e
    ∙ ap (λ f. first_block c.args.m (blocks (ord c.args.base c.args.height) f)) (sym k.free)

pub carve-returns-clause-within : goal.carve-returns-clause-within
carve-returns-clause-within t c = subst (λ (i : ℕ). c.carve_parts.result + 2 ^ c.args.k ≤ 2 ^ i) (ord_down c.args.base c.args.height c.if-height-eq0.false) c.carve_parts.ensures.within

pub carve-returns-clause-free : goal.carve-returns-clause-free
carve-returns-clause-free t c =
    let k = cut_up c.args.base c.args.height c.args.s.now c.split_at_mut-head.result.0.now c.split_at_mut-head.result.1.now c.split_at_mut-low.result.0.now c.split_at_mut-low.result.1.now c.if-height-eq0.false c.requires.right c.split_at_mut-head.ensures.front c.split_at_mut-head.ensures.back c.split_at_mut-low.ensures.front c.split_at_mut-low.ensures.back in
    join_free c.args.base c.args.height c.carve_parts.new.root c.split_at_mut-head.result.0.now c.carve_parts.new.low c.carve_parts.new.high c.if-height-eq0.false k.one (c.carve_parts.auto.low ∙ k.low_len)
    ∙ c.carve_parts.ensures.free ∙ ap (marked c.carve_parts.result (2 ^ c.args.k) false) (sym k.free)

pub carve_parts-returns-then-k-base-clause-right : goal.carve_parts-returns-then-k-base-clause-right
carve_parts-returns-then-k-base-clause-right t c = (all_taken c.args.base c.args.at c.args.root.now c.args.low.now c.args.high.now c.requires.right (c.if-root-whole.true ∙ c.whole_mask-whole.ensures ∙ top_pow c.args.base c.args.at)).0

pub carve_parts-returns-then-k-base-clause-place : goal.carve_parts-returns-then-k-base-clause-place
carve_parts-returns-then-k-base-clause-place t c = place_whole c.args.base c.args.at c.args.root.now c.args.m c.args.low.now c.args.high.now (c.if-root-whole.true ∙ c.whole_mask-whole.ensures ∙ top_pow c.args.base c.args.at)

pub carve_parts-returns-then-k-base-clause-within : goal.carve_parts-returns-then-k-base-clause-within
carve_parts-returns-then-k-base-clause-within t c = omega (arith, ap (λ i. 2 ^ i) (let e : suc (ord c.args.base c.args.at) ≡ c.args.k = omega (arith, ord_is c.args.base c.args.at, c.if-k-base.true) in e))

pub carve_parts-returns-then-k-base-clause-free : goal.carve_parts-returns-then-k-base-clause-free
carve_parts-returns-then-k-base-clause-free t c = (all_taken c.args.base c.args.at c.args.root.now c.args.low.now c.args.high.now c.requires.right (c.if-root-whole.true ∙ c.whole_mask-whole.ensures ∙ top_pow c.args.base c.args.at)).1 ∙ ap (λ i. marked 0 (2 ^ i) false (free_parts c.args.base c.args.at c.args.root.now c.args.low.now c.args.high.now)) (let e : suc (ord c.args.base c.args.at) ≡ c.args.k = omega (arith, ord_is c.args.base c.args.at, c.if-k-base.true) in e)

pub carve_parts-make_whole-requires-clause-bare : goal.carve_parts-make_whole-requires-clause-bare
carve_parts-make_whole-requires-clause-bare t c = (empty_halves c.args.base c.args.at c.args.root.now c.args.low.now c.args.high.now c.requires.right (c.if-root-whole.true ∙ c.whole_mask-whole.ensures ∙ top_pow c.args.base c.args.at)).0

pub carve_parts-make_whole-requires-then-root-whole-clause-bare : goal.carve_parts-make_whole-requires-then-root-whole-clause-bare
carve_parts-make_whole-requires-then-root-whole-clause-bare t c = (empty_halves c.args.base c.args.at c.args.root.now c.args.low.now c.args.high.now c.requires.right (c.if-root-whole.true ∙ c.whole_mask-whole.ensures ∙ top_pow c.args.base c.args.at)).1

pub carve_parts-carve-place-requires : goal.carve_parts-carve-place-requires
carve_parts-carve-place-requires t c = (search rules, (c.make_whole.ensures.right, ((omega (arith, order_fits (suc (ord c.args.base c.args.at)) c.args.m (free_parts c.args.base c.args.at c.args.root.now c.args.low.now c.args.high.now) c.requires.has, ord_is c.args.base c.args.at), c.requires.orders.1, omega arith), has_whole c.args.base c.args.at (c.args.base + c.args.at) (free_of c.args.base c.args.at c.make_whole.new.s) refl c.make_whole.ensures.free)))

pub carve_parts-returns-then-root-whole-clause-right : goal.carve_parts-returns-then-root-whole-clause-right
carve_parts-returns-then-root-whole-clause-right t c = (low_joined c.args.base c.args.at c.args.k c.carve-place.result (bit_or c.mask_of-x.result c.mask_of-y.result) (free_of c.args.base c.args.at c.make_whole.new.s) c.carve-place.new.s c.make_whole-then-root-whole.new.s c.carve-place.ensures.right c.make_whole-then-root-whole.ensures.right (free_len c.args.base c.args.at c.make_whole.new.s) c.carve-place.ensures.free c.carve-place.ensures.within (or_of _ _ c.mask_of-x.result c.mask_of-y.result c.mask_of-x.ensures c.mask_of-y.ensures)).0

pub carve_parts-returns-then-root-whole-clause-place : goal.carve_parts-returns-then-root-whole-clause-place
carve_parts-returns-then-root-whole-clause-place t c = c.carve-place.ensures.place ∙ first_of_whole (ord c.args.base c.args.at) (c.args.base + c.args.at) (free_of c.args.base c.args.at c.make_whole.new.s) c.make_whole.ensures.free ∙ place_whole c.args.base c.args.at c.args.root.now c.args.m c.args.low.now c.args.high.now (c.if-root-whole.true ∙ c.whole_mask-whole.ensures ∙ top_pow c.args.base c.args.at)

pub carve_parts-returns-then-root-whole-clause-free : goal.carve_parts-returns-then-root-whole-clause-free
carve_parts-returns-then-root-whole-clause-free t c =
    (low_joined c.args.base c.args.at c.args.k c.carve-place.result (bit_or c.mask_of-x.result c.mask_of-y.result) (free_of c.args.base c.args.at c.make_whole.new.s) c.carve-place.new.s c.make_whole-then-root-whole.new.s c.carve-place.ensures.right c.make_whole-then-root-whole.ensures.right (free_len c.args.base c.args.at c.make_whole.new.s) c.carve-place.ensures.free c.carve-place.ensures.within (or_of _ _ c.mask_of-x.result c.mask_of-y.result c.mask_of-x.ensures c.mask_of-y.ensures)).1
    ∙ ap (marked c.carve-place.result (2 ^ c.args.k) false)
    (ap (λ f. f ++ free_of c.args.base c.args.at c.make_whole-then-root-whole.new.s) c.make_whole.ensures.free ∙ ap (λ f. replicate (2 ^ ord c.args.base c.args.at) true ++ f) c.make_whole-then-root-whole.ensures.free ∙ two_wholes c.args.base c.args.at c.args.root.now c.args.low.now c.args.high.now (c.if-root-whole.true ∙ c.whole_mask-whole.ensures ∙ top_pow c.args.base c.args.at))

pub carve_parts-overflow_shr-first : goal.carve_parts-overflow_shr-first
carve_parts-overflow_shr-first t c = omega (arith, order_fits (suc (ord c.args.base c.args.at)) c.args.m (free_parts c.args.base c.args.at c.args.root.now c.args.low.now c.args.high.now) c.requires.has, ord_is c.args.base c.args.at)

pub carve_parts-carve-place-requires-then-first-m-eq1 : goal.carve_parts-carve-place-requires-then-first-m-eq1
carve_parts-carve-place-requires-then-first-m-eq1 t c =
    let h = has_low c.args.base c.args.at c.args.m c.args.low.now c.requires.right.low_right (ap (λ x. bit_and (x / 2 ^ c.args.m) 1) (sym c.mask_of-first.ensures) ∙ c.if-first-m-eq1.true) in
    (search rules, (c.requires.right.low_right, ((c.requires.orders.0, c.requires.orders.1, omega arith), h)))

pub carve_parts-returns-then-first-m-eq1-clause-right : goal.carve_parts-returns-then-first-m-eq1-clause-right
carve_parts-returns-then-first-m-eq1-clause-right t c = (low_joined c.args.base c.args.at c.args.k c.carve-place-then-first-m-eq1.result (bit_or c.mask_of-left.result c.mask_of-second.result) (free_of c.args.base c.args.at c.args.low.now) c.carve-place-then-first-m-eq1.new.s c.args.high.now c.carve-place-then-first-m-eq1.ensures.right c.requires.right.high_right (free_len c.args.base c.args.at c.args.low.now) c.carve-place-then-first-m-eq1.ensures.free c.carve-place-then-first-m-eq1.ensures.within (or_of _ _ c.mask_of-left.result c.mask_of-second.result c.mask_of-left.ensures c.mask_of-second.ensures)).0

pub carve_parts-returns-then-first-m-eq1-clause-place : goal.carve_parts-returns-then-first-m-eq1-clause-place
carve_parts-returns-then-first-m-eq1-clause-place t c = c.carve-place-then-first-m-eq1.ensures.place ∙ place_low c.args.base c.args.at c.args.root.now c.args.m c.args.low.now c.args.high.now c.requires.right (λ e. c.if-root-whole.false (e ∙ sym (c.whole_mask-whole.ensures ∙ top_pow c.args.base c.args.at))) (ap (λ x. bit_and (x / 2 ^ c.args.m) 1) (sym c.mask_of-first.ensures) ∙ c.if-first-m-eq1.true)

pub carve_parts-returns-then-first-m-eq1-clause-free : goal.carve_parts-returns-then-first-m-eq1-clause-free
carve_parts-returns-then-first-m-eq1-clause-free t c =
    (low_joined c.args.base c.args.at c.args.k c.carve-place-then-first-m-eq1.result (bit_or c.mask_of-left.result c.mask_of-second.result) (free_of c.args.base c.args.at c.args.low.now) c.carve-place-then-first-m-eq1.new.s c.args.high.now c.carve-place-then-first-m-eq1.ensures.right c.requires.right.high_right (free_len c.args.base c.args.at c.args.low.now) c.carve-place-then-first-m-eq1.ensures.free c.carve-place-then-first-m-eq1.ensures.within (or_of _ _ c.mask_of-left.result c.mask_of-second.result c.mask_of-left.ensures c.mask_of-second.ensures)).1
    ∙ ap (marked c.carve-place-then-first-m-eq1.result (2 ^ c.args.k) false) (sym (parts_mixed (ord c.args.base c.args.at) c.args.root.now (free_of c.args.base c.args.at c.args.low.now) (free_of c.args.base c.args.at c.args.high.now) (λ e. c.if-root-whole.false (e ∙ sym (c.whole_mask-whole.ensures ∙ top_pow c.args.base c.args.at)))))

pub carve_parts-carve-place-requires-2 : goal.carve_parts-carve-place-requires-2
carve_parts-carve-place-requires-2 t c = (search rules, (c.requires.right.high_right, ((c.requires.orders.0, c.requires.orders.1, omega arith), (has_high c.args.base c.args.at c.args.root.now c.args.m c.args.low.now c.args.high.now c.requires.right (λ e. c.if-root-whole.false (e ∙ sym (c.whole_mask-whole.ensures ∙ top_pow c.args.base c.args.at))) (λ e. c.if-first-m-eq1.false (ap (λ x. bit_and (x / 2 ^ c.args.m) 1) c.mask_of-first.ensures ∙ e)) c.requires.has))))

pub carve_parts-overflow_add-result : goal.carve_parts-overflow_add-result
carve_parts-overflow_add-result t c = omega (arith, c.carve-place-2.ensures.within, (c.places_of-half.ensures ∙ at_pow c.args.base c.args.at), small_half (ord c.args.base c.args.at) (omega (arith, ord_is c.args.base c.args.at)))

pub carve_parts-returns-clause-right : goal.carve_parts-returns-clause-right
carve_parts-returns-clause-right t c = (high_joined c.args.base c.args.at c.args.k c.carve-place-2.result (bit_or c.mask_of-first.result c.mask_of-right.result) (free_of c.args.base c.args.at c.args.high.now) c.args.low.now c.carve-place-2.new.s c.requires.right.low_right c.carve-place-2.ensures.right (free_len c.args.base c.args.at c.args.high.now) c.carve-place-2.ensures.free c.carve-place-2.ensures.within (or_of _ _ c.mask_of-first.result c.mask_of-right.result c.mask_of-first.ensures c.mask_of-right.ensures)).0

pub carve_parts-returns-clause-place : goal.carve_parts-returns-clause-place
carve_parts-returns-clause-place t c =
    ap (λ x. x + c.carve-place-2.result) (c.places_of-half.ensures ∙ at_pow c.args.base c.args.at) ∙ ap (λ x. 2 ^ ord c.args.base c.args.at + x) c.carve-place-2.ensures.place
    ∙ place_high c.args.base c.args.at c.args.root.now c.args.m c.args.low.now c.args.high.now c.requires.right (λ e. c.if-root-whole.false (e ∙ sym (c.whole_mask-whole.ensures ∙ top_pow c.args.base c.args.at))) (λ e. c.if-first-m-eq1.false (ap (λ x. bit_and (x / 2 ^ c.args.m) 1) c.mask_of-first.ensures ∙ e)) (has_high c.args.base c.args.at c.args.root.now c.args.m c.args.low.now c.args.high.now c.requires.right (λ e. c.if-root-whole.false (e ∙ sym (c.whole_mask-whole.ensures ∙ top_pow c.args.base c.args.at))) (λ e. c.if-first-m-eq1.false (ap (λ x. bit_and (x / 2 ^ c.args.m) 1) c.mask_of-first.ensures ∙ e)) c.requires.has)

pub carve_parts-returns-clause-within : goal.carve_parts-returns-clause-within
carve_parts-returns-clause-within t c = omega (arith, c.carve-place-2.ensures.within, (c.places_of-half.ensures ∙ at_pow c.args.base c.args.at), double (ord c.args.base c.args.at))

pub carve_parts-returns-clause-free : goal.carve_parts-returns-clause-free
carve_parts-returns-clause-free t c =
    (high_joined c.args.base c.args.at c.args.k c.carve-place-2.result (bit_or c.mask_of-first.result c.mask_of-right.result) (free_of c.args.base c.args.at c.args.high.now) c.args.low.now c.carve-place-2.new.s c.requires.right.low_right c.carve-place-2.ensures.right (free_len c.args.base c.args.at c.args.high.now) c.carve-place-2.ensures.free c.carve-place-2.ensures.within (or_of _ _ c.mask_of-first.result c.mask_of-right.result c.mask_of-first.ensures c.mask_of-right.ensures)).1
    ∙ ap (λ x. marked (x + c.carve-place-2.result) (2 ^ c.args.k) false (free_of c.args.base c.args.at c.args.low.now ++ free_of c.args.base c.args.at c.args.high.now)) (sym (c.places_of-half.ensures ∙ at_pow c.args.base c.args.at))
    ∙ ap (marked (c.places_of-half.result + c.carve-place-2.result) (2 ^ c.args.k) false) (sym (parts_mixed (ord c.args.base c.args.at) c.args.root.now (free_of c.args.base c.args.at c.args.low.now) (free_of c.args.base c.args.at c.args.high.now) (λ e. c.if-root-whole.false (e ∙ sym (c.whole_mask-whole.ensures ∙ top_pow c.args.base c.args.at)))))
