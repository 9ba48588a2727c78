use Rattle.std.proofs.Common.{[], ◌∷◌, subst}
use Rattle.fib_delta.specs.Views.{change_as}
use Rattle.fib_report.specs.Rows.{of_change}
use Rattle.fib_report.specs.Sections.{WritesRows, text_hops}
use Rattle.fib_report.proofs.Entries.{items_one}
use Rattle.fib_report.proofs.run_text.RunText.event.Goals as goal

pub loop-change-preserved : goal.loop-change-preserved
loop-change-preserved c =
    let first = c.loop-change.invariant in
    let next = subst (λ hops. WritesRows c.loop-change.self c.change.new.self (of_change hops (c.args.event, change_as c.change-item.result) ∷ [])) first.hops c.in_ok-change.ensures in
    items_one (λ x. of_change (text_hops c.args.self.now) (c.args.event, x)) change_as c.args.self.now c.loop-change.self c.change.new.self c.args.changes.now c.loop-change.change-index c.change-item.result c.loop-change-test.true c.change-item.is first next
