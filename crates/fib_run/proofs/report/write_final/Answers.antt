use Rattle.std.proofs.Common.{◌≡◌, map, ap, ◌∙◌}
use Rattle.std.proofs.lemmas.Result.{IfOk-weaker}
use Rattle.fib_addr.specs.Views.{addr_as}
use Rattle.fib_report.specs.Rows.{run_text}
use Rattle.fib_report.specs.Sections.{text_in}
use Rattle.fib_report.specs.Views.{Told, moves_as}
use Rattle.fib_report.proofs.Sections.{all_written, text_written}
use Rattle.fib_due.specs.Due.{printed, printed_text}
use Rattle.fib_due.specs.Proves.{ChecksYes}
use Rattle.fib_run.specs.Final.{final_changes}
use Rattle.fib_run.specs.Told.{told_changes}
use Rattle.fib_run.proofs.Printing.{checks_yes}
use Rattle.fib_run.proofs.Telling.{noted_in, told_by, told_is, text_is}
use Rattle.fib_run.proofs.report.write_final.Goals as goal

pub returns-clause-text : goal.returns-clause-text
returns-clause-text c = λ limits load updates state f st.
    let s = c.args.ended.final_fib in
    let hops = c.args.ended.hops.list in
    let asks = map addr_as c.args.asks.now in
    let run : Told = told_by (noted_in c.args.fed.now) s.sizes.direct s.routes s.table (final_changes c.args.ended) (map moves_as c.args.ended.moves.items) asks c.totals.result in
    let is : run ≡ (printed limits load updates asks).told = ap (λ cs. told_by (noted_in c.args.fed.now) s.sizes.direct s.routes s.table cs (map moves_as c.args.ended.moves.items) asks c.totals.result) st.changes ∙ (ap (λ ms. told_by (noted_in c.args.fed.now) s.sizes.direct s.routes s.table (told_changes state) ms asks c.totals.result) st.moves
    ∙ told_is limits load updates c.args.fed.now state asks s.sizes.direct s.routes s.table c.totals.result _ _ _ (ap (λ z. z.direct) st.sizes) st.routes st.table c.totals.ensures c.needs-needs.ensures.needs c.in_ok-text.ensures.count c.in_ok-text-2.ensures.count f) in
    let all : text_in c.report.new.self ≡ run_text hops run = text_written hops run c.new-text.result c.in_ok-text.text c.in_ok-write_events.ensures.judged c.in_ok-write_events.ensures.changed c.write_events.new.text c.write_answers.new.text c.in_ok-text-2.ensures.writes.listed c.in_ok-text-2.ensures.writes.aggregated c.in_ok-text-2.text c.report.new.self c.new-text.ensures.hops
    c.in_ok-text.ensures.writes c.in_ok-write_events.ensures.invalid_rows c.in_ok-write_events.ensures.change_rows c.in_ok-write_events.ensures.move_rows c.in_ok-write_answers.ensures c.in_ok-text-2.ensures.writes.table_rows c.in_ok-text-2.ensures.writes.least_rows c.in_ok-text-2.ensures.writes.cert_rows c.in_ok-report.ensures c.new-text.ensures.empty
    in
    IfOk-weaker c.finish.result (λ text. text.items ≡ text_in c.report.new.self) (λ text. text.items ≡ printed_text (printed limits load updates asks)) (λ text e. text_is limits load updates c.args.fed.now state asks hops run text.items f is st.hops (e ∙ all)) c.finish.ensures

pub returns-clause-yes : goal.returns-clause-yes
returns-clause-yes c = λ limits load updates state f st.
    let s = c.args.ended.final_fib in
    let hops = c.args.ended.hops.list in
    let asks = map addr_as c.args.asks.now in
    let run : Told = told_by (noted_in c.args.fed.now) s.sizes.direct s.routes s.table (final_changes c.args.ended) (map moves_as c.args.ended.moves.items) asks c.totals.result in
    let is : run ≡ (printed limits load updates asks).told = ap (λ cs. told_by (noted_in c.args.fed.now) s.sizes.direct s.routes s.table cs (map moves_as c.args.ended.moves.items) asks c.totals.result) st.changes ∙ (ap (λ ms. told_by (noted_in c.args.fed.now) s.sizes.direct s.routes s.table (told_changes state) ms asks c.totals.result) st.moves
    ∙ told_is limits load updates c.args.fed.now state asks s.sizes.direct s.routes s.table c.totals.result _ _ _ (ap (λ z. z.direct) st.sizes) st.routes st.table c.totals.ensures c.needs-needs.ensures.needs c.in_ok-text.ensures.count c.in_ok-text-2.ensures.count f) in
    let rows = all_written hops run c.new-text.result c.in_ok-text.text c.in_ok-write_events.ensures.judged c.in_ok-write_events.ensures.changed c.write_events.new.text c.write_answers.new.text c.in_ok-text-2.ensures.writes.listed c.in_ok-text-2.ensures.writes.aggregated c.in_ok-text-2.text c.report.new.self c.new-text.ensures.hops
    c.in_ok-text.ensures.writes c.in_ok-write_events.ensures.invalid_rows c.in_ok-write_events.ensures.change_rows c.in_ok-write_events.ensures.move_rows c.in_ok-write_answers.ensures c.in_ok-text-2.ensures.writes.table_rows c.in_ok-text-2.ensures.writes.least_rows c.in_ok-text-2.ensures.writes.cert_rows c.in_ok-report.ensures
    in
    IfOk-weaker c.finish.result (λ text. text.items ≡ printed_text (printed limits load updates asks)) (λ text. ChecksYes text.items) (λ text e. checks_yes limits load updates c.args.fed.now state asks hops run text.items f is st.hops rows.proper e) (returns-clause-text c limits load updates state f st)
