use Rattle.std.proofs.Common.{rules, ◌≢◌, ◌<◌, ◌^◌, ◌-◌, ◌∙◌, ap, sym, subst, arith, nat_eq, ℕ}
use Rattle.std.specs.Int.{bit_at}
use Rattle.buddy_arena.specs.Space.{blocks, has_order}
use Rattle.buddy_arena.specs.Words.{word_free}
use Rattle.buddy_arena.proofs.Words.{orders_none, orders_full, orders_halves, some_place, high_small, fits_four, orders_eight}
use Rattle.buddy_arena.proofs.Bits.{orders_has}
use Rattle.buddy_arena.proofs.word.+orders.Goals as goal

pub returns-then-w-eq0 : goal.returns-then-w-eq0
returns-then-w-eq0 t c = λ m. orders_none c.args.k c.args.w m c.if-w-eq0.true

pub returns-then-w-ones : goal.returns-then-w-ones
returns-then-w-ones t c = λ m. orders_full c.args.k c.args.w m c.requires.few (c.if-w-ones.true ∙ c.ones.ensures)

pub orders-requires-2 : goal.orders-requires-2
orders-requires-2 t c =
    let p = some_place c.args.k c.args.w c.requires.fits c.if-w-eq0.false (λ e. c.if-w-ones.false (e ∙ sym c.ones.ensures)) in
    let h : c.high_half.result < 2 ^ (2 ^ (c.args.k - 1)) = subst (λ (x : ℕ). x < 2 ^ (2 ^ (c.args.k - 1))) (sym c.high_half.ensures) (high_small c.args.k c.args.w p c.requires.fits) in
    (search (rules, p), (omega arith, h))

pub returns : goal.returns
returns t c =
    let n : c.args.w ≢ 2 ^ (2 ^ c.args.k) - 1 = λ e. c.if-w-ones.false (e ∙ sym c.ones.ensures) in
    let p = some_place c.args.k c.args.w c.requires.fits c.if-w-eq0.false n in
    λ m. orders_halves c.args.k c.args.w m c.orders.result c.orders-2.result p c.requires.fits n
    (c.orders.ensures m ∙ ap (λ x. has_order m (blocks (c.args.k - 1) (word_free (c.args.k - 1) x))) c.low_half.ensures)
    (c.orders-2.ensures m ∙ ap (λ x. has_order m (blocks (c.args.k - 1) (word_free (c.args.k - 1) x))) c.high_half.ensures)

pub orders_of_four-requires : goal.orders_of_four-requires
orders_of_four-requires t c = fits_four c.args.k c.args.w c.if-k-eq2.true c.requires.fits

pub returns-then-k-eq2 : goal.returns-then-k-eq2
returns-then-k-eq2 t c = λ m. ap (λ x. nat_eq (bit_at x m) 1) c.orders_of_four.ensures ∙ orders_has m (blocks 2 (word_free 2 c.args.w)) ∙ ap (λ i. has_order m (blocks i (word_free i c.args.w))) (sym c.if-k-eq2.true)

pub returns-then-k-eq3 : goal.returns-then-k-eq3
returns-then-k-eq3 t c = λ m. orders_eight c.args.k c.args.w m c.orders_of_four-then-k-eq3.result c.orders_of_four-then-k-eq3-2.result c.low_half-low.result c.high_half-high.result c.if-k-eq3.true c.requires.fits (λ e. c.if-w-ones.false (e ∙ sym c.ones.ensures)) c.low_half-low.ensures c.high_half-high.ensures c.orders_of_four-then-k-eq3.ensures c.orders_of_four-then-k-eq3-2.ensures
