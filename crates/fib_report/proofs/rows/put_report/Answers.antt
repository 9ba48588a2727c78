use Rattle.std.proofs.Common.{List, [], ◌∷◌, arith}
use Rattle.printed_text.specs.Rows.{PrintedRow, Records, Skipped, Events, Routes, Entries, Nodes, Leaves, Treated, report_row}
use Rattle.fib_report.proofs.Loops.{AddsRows-one, AddsRows-before}
use Rattle.fib_report.proofs.rows.put_report.Goals as goal

pub returns-clause-added : goal.returns-clause-added
returns-clause-added g c =
    let r = c.args.report.now in
    let treated : List PrintedRow = report_row Treated r.treated ∷ [] in
    let leaves : List PrintedRow = report_row Leaves r.leaves ∷ treated in
    let nodes : List PrintedRow = report_row Nodes r.nodes ∷ leaves in
    let entries : List PrintedRow = report_row Entries r.entries ∷ nodes in
    let routes : List PrintedRow = report_row Routes r.routes ∷ entries in
    let events : List PrintedRow = report_row Events r.events ∷ routes in
    let skipped : List PrintedRow = report_row Skipped r.skipped ∷ events in
    AddsRows-before _ _ _ _ (report_row Records r.records) skipped c.in_ok-put_count.ensures
    (AddsRows-before _ _ _ _ (report_row Skipped r.skipped) events c.in_ok-put_count-2.ensures
    (AddsRows-before _ _ _ _ (report_row Events r.events) routes c.in_ok-put_count-3.ensures
    (AddsRows-before _ _ _ _ (report_row Routes r.routes) entries c.in_ok-put_count-4.ensures
    (AddsRows-before _ _ _ _ (report_row Entries r.entries) nodes c.in_ok-put_count-5.ensures
    (AddsRows-before _ _ _ _ (report_row Nodes r.nodes) leaves c.in_ok-put_count-6.ensures
    (AddsRows-before _ _ _ _ (report_row Leaves r.leaves) treated c.in_ok-put_count-7.ensures
    (AddsRows-one _ _ _ (report_row Treated r.treated) c.in_ok-put_count-8.ensures)))))))

pub returns-clause-proper : goal.returns-clause-proper
returns-clause-proper g c = (omega arith, (omega arith, (omega arith, (omega arith, (omega arith, (omega arith, (omega arith, (omega arith, tt))))))))
