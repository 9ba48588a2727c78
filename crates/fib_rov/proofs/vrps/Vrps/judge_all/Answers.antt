use Rattle.std.proofs.Common.{◌++◌, ◌<◌, ap, arith, length, map, sym, ◌∙◌}
use Rattle.fib_report.specs.Views.{invalid_as}
use Rattle.fib_rov.proofs.JudgedLists.{left_all, left_step, noted_all, noted_step}
use Rattle.fib_rov.specs.Views.{vrp_as}
use Rattle.fib_rov.proofs.NoVrps.{left_as_they_are, none_in, nothing_added}
use Rattle.fib_rov.proofs.vrps.Vrps.judge_all.Goals as goal

pub returns-then-is_empty-clause-left : goal.returns-then-is_empty-clause-left
returns-then-is_empty-clause-left c = left_as_they_are _ _ (none_in c.as_slice.result.now _ (sym c.is_empty.ensures ∙ c.if-is_empty.true) (ap (map vrp_as) c.as_slice.ensures.value ∙ c.self.view_is))

pub returns-then-is_empty-clause-invalid : goal.returns-then-is_empty-clause-invalid
returns-then-is_empty-clause-invalid c = nothing_added _ _ _ (none_in c.as_slice.result.now _ (sym c.is_empty.ensures ∙ c.if-is_empty.true) (ap (map vrp_as) c.as_slice.ensures.value ∙ c.self.view_is))

pub loop-event-preserved : goal.loop-event-preserved
loop-event-preserved c =
    let v = c.loop-event.invariant in
    let lt : c.loop-event.event-index < length c.loop-event.events = omega (arith, c.loop-event-test.true, c.loop-event.auto.events) in
    record {
      left = left_step c.args.self.now c.loop-event.events c.loop-event.event-index c.event-item.result c.judge_one-left.result.0 lt _ c.judge_one-left.ensures.left v.left;
      noted = noted_step c.args.self.now c.loop-event.events c.loop-event.event-index c.event-item.result c.judge_one-left.result.0 lt _ _ _ (c.in_ok-add.ensures ∙ ap (λ rs. map invalid_as c.loop-event.invalid.items ++ rs) c.judge_one-left.ensures.invalid) v.noted;
    }

pub returns-clause-left : goal.returns-clause-left
returns-clause-left c = left_all c.args.self.now c.loop-event.events c.loop-event.event-index _ (omega (arith, c.loop-event-test.false, c.loop-event.auto.event-index-end)) c.loop-event.invariant.left

pub returns-clause-invalid : goal.returns-clause-invalid
returns-clause-invalid c = noted_all c.args.self.now c.loop-event.events c.loop-event.event-index _ _ (omega (arith, c.loop-event-test.false, c.loop-event.auto.event-index-end)) c.loop-event.invariant.noted
