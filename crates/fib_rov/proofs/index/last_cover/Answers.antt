use Rattle.std.proofs.Common.{◌-◌, sym, ap, ◌∙◌, arith}
use Rattle.table_model.specs.Halves.{is_within}
use Rattle.fib_addr.specs.Views.{prefix_as}
use Rattle.fib_rov.specs.declared.numbered.Numbered.{Numbered}
use Rattle.fib_rov.specs.Index.{prefix_of}
use Rattle.fib_rov.proofs.Same.{is_prefix}
use Rattle.fib_rov.proofs.Lasts.{behind_more, prefix_at}
use Rattle.fib_rov.proofs.index.last_cover.Goals as goal

pub loop-at-smaller : goal.loop-at-smaller
loop-at-smaller c =
    (behind_more (prefix_as c.args.prefix.now) c.args.sorted.now c.args.links.now c.args.count c.loop-at.at c.index-sorted-at.result (is_prefix c.args.prefix.now) c.requires.sorted c.requires.linked c.requires.up_to c.loop-at-test.true
    (λ d. ap (is_within (prefix_as c.args.prefix.now)) (prefix_at c.args.sorted.now (c.loop-at.at - 1) d c.index-sorted-at.result (omega (arith, c.loop-at.invariant.few, c.requires.up_to.few, c.loop-at-test.true)) ∙ ap (λ (x : Numbered). prefix_as (prefix_of x)) (sym c.index-sorted-at.is)) ∙ (sym c.covers.ensures ∙ c.if-not-covers.true))
    c.loop-at.invariant).1

pub loop-at-preserved : goal.loop-at-preserved
loop-at-preserved c =
    (behind_more (prefix_as c.args.prefix.now) c.args.sorted.now c.args.links.now c.args.count c.loop-at.at c.index-sorted-at.result (is_prefix c.args.prefix.now) c.requires.sorted c.requires.linked c.requires.up_to c.loop-at-test.true
    (λ d. ap (is_within (prefix_as c.args.prefix.now)) (prefix_at c.args.sorted.now (c.loop-at.at - 1) d c.index-sorted-at.result (omega (arith, c.loop-at.invariant.few, c.requires.up_to.few, c.loop-at-test.true)) ∙ ap (λ (x : Numbered). prefix_as (prefix_of x)) (sym c.index-sorted-at.is)) ∙ (sym c.covers.ensures ∙ c.if-not-covers.true))
    c.loop-at.invariant).0
