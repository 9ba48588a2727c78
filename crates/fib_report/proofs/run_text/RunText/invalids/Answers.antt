use Rattle.fib_report.specs.Rows.{of_invalid}
use Rattle.fib_report.specs.Views.{invalid_as}
use Rattle.fib_report.proofs.Entries.{items_one}
use Rattle.fib_report.proofs.run_text.RunText.invalids.Goals as goal

pub loop-invalid-preserved : goal.loop-invalid-preserved
loop-invalid-preserved c = items_one of_invalid invalid_as c.args.self.now c.loop-invalid.self c.invalid.new.self c.args.invalids.now c.loop-invalid.invalid-index c.invalid-item.result c.loop-invalid-test.true c.invalid-item.is c.loop-invalid.invariant c.in_ok-invalid.ensures
