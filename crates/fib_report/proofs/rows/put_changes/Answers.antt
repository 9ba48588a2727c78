use Rattle.std.proofs.Common.{refl}
use Rattle.fib_delta.specs.Views.{change_as}
use Rattle.fib_report.specs.Rows.{of_change}
use Rattle.fib_report.proofs.Loops.{AddsRows-item}
use Rattle.fib_report.proofs.Proper.{one_proper}
use Rattle.fib_report.proofs.rows.put_changes.Goals as goal

pub loop-event-preserved : goal.loop-event-preserved
loop-event-preserved g c =
    let row = of_change c.args.hops.now in
    let x = c.loop-event-item.result in
    let one = row (x.0, change_as x.1) in
    (AddsRows-item _ _ _ _ row (λ c. (c.0, change_as c.1)) _ _ x one c.loop-event-test.true c.loop-event-item.is refl c.loop-event.invariant.0 c.in_ok-put_change_row.ensures.added, one_proper row (λ c. (c.0, change_as c.1)) _ _ x one c.loop-event-test.true c.loop-event-item.is refl c.loop-event.invariant.1 c.in_ok-put_change_row.ensures.proper)
