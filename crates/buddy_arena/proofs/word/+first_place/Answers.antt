use Rattle.std.proofs.Common.{rules, ◌≡◌, ◌≢◌, ◌<◌, ◌^◌, ◌-◌, ◌+◌, ◌∙◌, ap, sym, subst, arith, nat_eq, ℕ, true}
use Rattle.std.specs.Int.{bit_at}
use Rattle.std.proofs.lemmas.Nat.{one_shl}
use Rattle.buddy_arena.specs.Space.{blocks, has_order, first_block}
use Rattle.buddy_arena.specs.Words.{word_free}
use Rattle.buddy_arena.proofs.Words.{first_full, some_left, low_there, low_first, high_there, high_first, high_small, low_fits, low_blocks, up_one}
use Rattle.buddy_arena.proofs.word.+first_place.Goals as goal

pub returns-then-w-ones-clause-place : goal.returns-then-w-ones-clause-place
returns-then-w-ones-clause-place t c = first_full c.args.k c.args.w c.args.m (c.if-w-ones.true ∙ c.ones.ensures)

pub overflow_sub-j : goal.overflow_sub-j
overflow_sub-j t c = some_left c.args.k c.args.w c.args.m c.requires.fits (λ e. c.if-w-ones.false (e ∙ sym c.ones.ensures)) c.requires.there

pub first_place-requires : goal.first_place-requires
first_place-requires t c =
    let n : c.args.w ≢ 2 ^ (2 ^ c.args.k) - 1 = λ e. c.if-w-ones.false (e ∙ sym c.ones.ensures) in
    let p = some_left c.args.k c.args.w c.args.m c.requires.fits n c.requires.there in
    let o : nat_eq (bit_at c.orders.result c.args.m) 1 ≡ has_order c.args.m (low_blocks c.args.k c.args.w) = c.orders.ensures c.args.m ∙ ap (λ x. has_order c.args.m (blocks (c.args.k - 1) (word_free (c.args.k - 1) x))) c.low_half-low.ensures in
    let h : c.low_half-low.result < 2 ^ (2 ^ (c.args.k - 1)) = subst (λ (x : ℕ). x < 2 ^ (2 ^ (c.args.k - 1))) (sym c.low_half-low.ensures) (low_fits (c.args.k - 1) c.args.w) in
    let r : has_order c.args.m (blocks (c.args.k - 1) (word_free (c.args.k - 1) c.low_half-low.result)) ≡ true = ap (λ x. has_order c.args.m (blocks (c.args.k - 1) (word_free (c.args.k - 1) x))) c.low_half-low.ensures ∙ low_there c.args.k c.args.w c.args.m c.orders.result p c.requires.fits n o c.if-orders-m-eq1.true in
    (search (rules, p), (omega arith, (h, (c.requires.small, r))))

pub returns-then-orders-m-eq1-clause-place : goal.returns-then-orders-m-eq1-clause-place
returns-then-orders-m-eq1-clause-place t c =
    let n : c.args.w ≢ 2 ^ (2 ^ c.args.k) - 1 = λ e. c.if-w-ones.false (e ∙ sym c.ones.ensures) in
    let p = some_left c.args.k c.args.w c.args.m c.requires.fits n c.requires.there in
    let o : nat_eq (bit_at c.orders.result c.args.m) 1 ≡ has_order c.args.m (low_blocks c.args.k c.args.w) = c.orders.ensures c.args.m ∙ ap (λ x. has_order c.args.m (blocks (c.args.k - 1) (word_free (c.args.k - 1) x))) c.low_half-low.ensures in
    c.first_place.ensures.place ∙ (ap (λ x. first_block c.args.m (blocks (c.args.k - 1) (word_free (c.args.k - 1) x))) c.low_half-low.ensures ∙ low_first c.args.k c.args.w c.args.m c.orders.result p c.requires.fits n o c.if-orders-m-eq1.true)

pub returns-then-orders-m-eq1-clause-within : goal.returns-then-orders-m-eq1-clause-within
returns-then-orders-m-eq1-clause-within t c =
    let p = some_left c.args.k c.args.w c.args.m c.requires.fits (λ e. c.if-w-ones.false (e ∙ sym c.ones.ensures)) c.requires.there in
    omega (arith, c.first_place.ensures.within, up_one c.args.k p)

pub first_place-requires-2 : goal.first_place-requires-2
first_place-requires-2 t c =
    let n : c.args.w ≢ 2 ^ (2 ^ c.args.k) - 1 = λ e. c.if-w-ones.false (e ∙ sym c.ones.ensures) in
    let p = some_left c.args.k c.args.w c.args.m c.requires.fits n c.requires.there in
    let o : nat_eq (bit_at c.orders.result c.args.m) 1 ≡ has_order c.args.m (low_blocks c.args.k c.args.w) = c.orders.ensures c.args.m ∙ ap (λ x. has_order c.args.m (blocks (c.args.k - 1) (word_free (c.args.k - 1) x))) c.low_half-low.ensures in
    let h : c.high_half.result < 2 ^ (2 ^ (c.args.k - 1)) = subst (λ (x : ℕ). x < 2 ^ (2 ^ (c.args.k - 1))) (sym c.high_half.ensures) (high_small c.args.k c.args.w p c.requires.fits) in
    let r : has_order c.args.m (blocks (c.args.k - 1) (word_free (c.args.k - 1) c.high_half.result)) ≡ true = ap (λ x. has_order c.args.m (blocks (c.args.k - 1) (word_free (c.args.k - 1) x))) c.high_half.ensures ∙ high_there c.args.k c.args.w c.args.m c.orders.result p c.requires.fits n o c.if-orders-m-eq1.false c.requires.there in
    (search (rules, p), (omega arith, (h, (c.requires.small, r))))

pub returns-clause-place : goal.returns-clause-place
returns-clause-place t c =
    let n : c.args.w ≢ 2 ^ (2 ^ c.args.k) - 1 = λ e. c.if-w-ones.false (e ∙ sym c.ones.ensures) in
    let p = some_left c.args.k c.args.w c.args.m c.requires.fits n c.requires.there in
    let o : nat_eq (bit_at c.orders.result c.args.m) 1 ≡ has_order c.args.m (low_blocks c.args.k c.args.w) = c.orders.ensures c.args.m ∙ ap (λ x. has_order c.args.m (blocks (c.args.k - 1) (word_free (c.args.k - 1) x))) c.low_half-low.ensures in
    ap (λ x. x + c.first_place-2.result) (one_shl (c.args.k - 1) 32 (omega arith))
    ∙ (ap (λ x. 2 ^ (c.args.k - 1) + x) (c.first_place-2.ensures.place ∙ ap (λ x. first_block c.args.m (blocks (c.args.k - 1) (word_free (c.args.k - 1) x))) c.high_half.ensures)
    ∙ high_first c.args.k c.args.w c.args.m c.orders.result p c.requires.fits n o c.if-orders-m-eq1.false c.requires.there)

pub returns-clause-within : goal.returns-clause-within
returns-clause-within t c =
    let p = some_left c.args.k c.args.w c.args.m c.requires.fits (λ e. c.if-w-ones.false (e ∙ sym c.ones.ensures)) c.requires.there in
    omega (arith, c.first_place-2.ensures.within, up_one c.args.k p, one_shl (c.args.k - 1) 32 (omega arith))
