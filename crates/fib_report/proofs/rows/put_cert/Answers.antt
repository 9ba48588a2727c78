use Rattle.std.proofs.Common.{refl}
use Rattle.cert_model.specs.Views.{row_as}
use Rattle.printed_text.specs.Numbered.{of_cert}
use Rattle.fib_report.proofs.Loops.{AddsRows-item}
use Rattle.fib_report.proofs.Proper.{one_proper}
use Rattle.fib_report.proofs.rows.put_cert.Goals as goal

pub loop-row-preserved : goal.loop-row-preserved
loop-row-preserved g c =
    let row = of_cert c.args.hops.now in
    let one = row (row_as c.row-item.result) in
    (AddsRows-item _ _ _ _ row row_as _ _ c.row-item.result one c.loop-row-test.true c.row-item.is refl c.loop-row.invariant.0 c.in_ok-put_part.ensures.added, one_proper row row_as _ _ c.row-item.result one c.loop-row-test.true c.row-item.is refl c.loop-row.invariant.1 c.in_ok-put_part.ensures.proper)
