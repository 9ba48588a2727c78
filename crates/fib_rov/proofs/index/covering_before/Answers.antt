use Rattle.std.proofs.Common.{◌-◌, sym, ap, ◌∙◌, arith}
use Rattle.table_model.specs.Address.{same_prefix}
use Rattle.table_model.specs.Halves.{is_within}
use Rattle.table_model.proofs.SamePrefix.{same_prefix_is}
use Rattle.fib_addr.specs.Views.{prefix_as}
use Rattle.fib_rov.specs.declared.numbered.Numbered.{Numbered}
use Rattle.fib_rov.specs.Index.{prefix_of}
use Rattle.fib_rov.proofs.Lasts.{at_place, before_linked, before_same, prefix_at}
use Rattle.fib_rov.proofs.index.covering_before.Goals as goal
use Rattle.fib_rov.proofs.index.covering_before.Goals.{else-at-gt1-via-then-at-gt1+else-has_prefix_of, else-at-gt1-via-else-at-gt1}

pub returns-then-has_prefix_of : goal.returns-then-has_prefix_of
returns-then-has_prefix_of c = λ p r fit is.
    let sorted = c.args.sorted.now in
    let one = c.index-sorted-at.result in
    let two = c.index-sorted-at-then-at-gt1.result in
    let same = same_prefix_is (prefix_as (prefix_of one)) (prefix_as (prefix_of two)) (sym c.has_prefix_of.ensures ∙ c.if-has_prefix_of.true) ∙ ap (λ (x : Numbered). prefix_as (prefix_of x)) c.index-sorted-at-then-at-gt1.is in
    before_same sorted c.args.at p
    (λ d. ap (is_within p)
    (prefix_at sorted (c.args.at - 2) d one (omega (arith, c.requires.within, c.if-at-gt1.true)) ∙ (ap (λ (x : Numbered). prefix_as (prefix_of x)) (sym c.index-sorted-at.is)
    ∙ (same ∙ prefix_at sorted (c.args.at - 1) two r (omega (arith, c.requires.within, c.if-at-gt1.true)))))
    ∙ is)
    c.if-at-gt1.true

pub returns-else-at-gt1 : goal.returns-else-at-gt1
returns-else-at-gt1 c = λ p r fit is.
    let sorted = c.args.sorted.now in
    before_linked sorted c.args.links.now c.args.at p fit c.requires.sorted c.requires.linked c.requires.some c.requires.within
    (λ d. ap (is_within p) (prefix_at sorted (c.args.at - 1) d r (omega (arith, c.requires.within, c.requires.some))) ∙ is)
    (λ d h. elim c.else-at-gt1.branch [
      | else-at-gt1-via-then-at-gt1+else-has_prefix_of w ↦
          ap (λ q. same_prefix q (at_place sorted (c.args.at - 1) d)) (prefix_at sorted (c.args.at - 2) d w.index-sorted-at.result (omega (arith, c.requires.within, h)) ∙ ap (λ (x : Numbered). prefix_as (prefix_of x)) (sym w.index-sorted-at.is))
          ∙ (ap (same_prefix (prefix_as (prefix_of w.index-sorted-at.result))) (prefix_at sorted (c.args.at - 1) d w.index-sorted-at-then-at-gt1.result (omega (arith, c.requires.within, h)) ∙ ap (λ (x : Numbered). prefix_as (prefix_of x)) (sym w.index-sorted-at-then-at-gt1.is)) ∙ (sym w.has_prefix_of.ensures ∙ w.if-has_prefix_of.false))
      | else-at-gt1-via-else-at-gt1 w ↦ absurd (omega (arith, h, w.if-at-gt1.false))
    ])
