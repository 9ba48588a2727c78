use Rattle.std.proofs.Common.{◌-◌, nat_eq, sym, ap, ◌∙◌, arith}
use Rattle.std.specs.Int.{bit_at}
use Rattle.table_model.specs.Halves.{half_at}
use Rattle.fib_addr.specs.Views.{prefix_as}
use Rattle.orig_tree.specs.Merged.{starts_within}
use Rattle.orig_tree.proofs.Heading.{next_some, next_short, next_other}
use Rattle.orig_tree.proofs.merge.next_half.Goals as goal

pub returns-then-first-at-clause-none : goal.returns-then-first-at-clause-none
returns-then-first-at-clause-none g c = λ b.
    ap (starts_within (half_at b (prefix_as c.args.at.now))) c.in-Some.ensures.some ∙ next_short c.args.at.now c.in-Some.first.prefix b c.if-first-at.true

pub returns-then-not-is_within-clause-none : goal.returns-then-not-is_within-clause-none
returns-then-not-is_within-clause-none g c = λ b.
    ap (starts_within (half_at b (prefix_as c.args.at.now))) c.in-Some.ensures.some ∙ next_other c.args.at.now c.in-Some.first.prefix b (sym c.is_within.ensures ∙ c.if-not-is_within.true)

pub returns-clause-some : goal.returns-clause-some
returns-clause-some g c =
    let x = c.in-Some.first in
    let p = c.args.at.now in
    ap (starts_within (half_at c.bit_at.result (prefix_as p))) c.in-Some.ensures.some
    ∙ next_some p x.prefix c.bit_at.result (omega (arith, c.if-first-at.false)) (sym c.is_within.ensures ∙ c.if-not-is_within.false)
    (c.bit_at.ensures ∙ ap (λ w. nat_eq (bit_at x.prefix.bits (w - p.len - 1)) 1) c.width.ensures)
