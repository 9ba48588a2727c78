use Rattle.std.proofs.Common.{◌≡◌, ◌-◌, ◌^◌, ℕ, true, replicate, subst, arith}
use Rattle.std.specs.Prelude.{IfOk}
use Rattle.buddy_arena.specs.Masks.{ord}
use Rattle.buddy_arena.proofs.Masks.{ord_is}
use Rattle.buddy_arena.proofs.free.FreePlaces.new.Goals as goal

pub returns-clause-order : goal.returns-clause-order
returns-clause-order c =
    let e : ord c.word_order-base.result (c.args.order - c.word_order-base.result) ≡ c.args.order = omega (arith, ord_is c.word_order-base.result (c.args.order - c.word_order-base.result), c.word_order-base.ensures.within) in
    subst (λ (n : ℕ). IfOk c.with_words.result (λ f. f.order ≡ n)) e c.with_words.ensures.order

pub returns-clause-free : goal.returns-clause-free
returns-clause-free c =
    let e : ord c.word_order-base.result (c.args.order - c.word_order-base.result) ≡ c.args.order = omega (arith, ord_is c.word_order-base.result (c.args.order - c.word_order-base.result), c.word_order-base.ensures.within) in
    subst (λ (n : ℕ). IfOk c.with_words.result (λ f. f.free ≡ replicate (2 ^ n) true)) e c.with_words.ensures.free
