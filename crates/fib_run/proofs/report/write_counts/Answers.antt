use Rattle.std.proofs.Common.{◌≡◌, ◌∙◌, IfOk, subst}
use Rattle.fib_report.specs.Rows.{report_text}
use Rattle.fib_run.proofs.Telling.{counts_are, needs_told}
use Rattle.fib_run.proofs.report.write_counts.Goals as goal

pub returns : goal.returns
returns c = λ limits load updates f.
    let is = counts_are limits load updates c.args.fed.now c.args.state.now _ _ _ _ _ _ c.in_ok-routes.ensures c.in_ok-table.ensures c.totals-report.ensures (needs_told c.args.state.now.engine _ c.requires.loaded c.needs.ensures.needs)
    (c.len.ensures ∙ c.in_ok-routes.routes.ok.0) (c.len-2.ensures ∙ c.in_ok-table.table.ok.0) f in
    subst (λ r. IfOk c.report_text.result (λ text. text.items ≡ report_text r)) is c.report_text.ensures
