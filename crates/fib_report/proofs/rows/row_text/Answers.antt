use Rattle.std.proofs.Common.{Some}
use Rattle.fib_report.proofs.Loops.{text_written-rows, IfOk-passed}
use Rattle.fib_report.proofs.rows.row_text.Goals as goal

pub returns : goal.returns
returns c =
    IfOk-passed (λ v. Some v.items) _ _ c.into_inner.result c.map_err.result _ c.map_err.ensures.cases c.map_err.ensures.variant c.into_inner.ensures.ok
    (text_written-rows _ _ _ _ c.row_writer-out.ensures.empty c.in_ok-put_fields.ensures)
