use Rattle.std.proofs.Common.{◌≡◌, map, ◌∙◌}
use Rattle.std.proofs.lemmas.Result.{IfOk-weaker}
use Rattle.fib_addr.specs.Views.{entry_as}
use Rattle.cert_model.specs.Views.{row_as}
use Rattle.fib_delta.specs.Views.{change_as}
use Rattle.fib_report.specs.Rows.{run_text}
use Rattle.fib_report.specs.Sections.{text_in}
use Rattle.fib_report.specs.Views.{Told, answer_as, invalid_as, moves_as}
use Rattle.fib_report.proofs.Proper.{on_ok}
use Rattle.fib_report.proofs.Sections.{all_written, text_written}
use Rattle.fib_report.proofs.whole_run.text_of_run.Goals as goal

pub returns-clause-text : goal.returns-clause-text
returns-clause-text c =
    let run : Told = record {
      routes = map entry_as c.deref.result.now;
      invalid = map invalid_as c.deref-2.result.now;
      changes = map (λ x. (x.0, change_as x.1)) c.deref-3.result.now;
      moves = map moves_as c.deref-4.result.now;
      answers = map answer_as c.deref-5.result.now;
      table = map entry_as c.deref-6.result.now;
      least = map entry_as c.deref-7.result.now;
      cert = map row_as c.deref-8.result.now;
      report = c.args.run.now.report;
    } in
    let hops = c.args.hops.now.list in
    let all : text_in c.report.new.self ≡ run_text hops run = text_written hops run c.new-text.result c.entries.new.self c.invalids.new.self c.changes.new.self c.moves.new.self c.answers.new.self c.entries-2.new.self c.entries-3.new.self c.certificate.new.self c.report.new.self c.new-text.ensures.hops
    c.in_ok-entries.ensures c.in_ok-invalids.ensures c.in_ok-changes.ensures c.in_ok-moves.ensures c.in_ok-answers.ensures c.in_ok-entries-2.ensures c.in_ok-entries-3.ensures c.in_ok-certificate.ensures c.in_ok-report.ensures c.new-text.ensures.empty
    in
    rw (c.deref.ensures.value, c.deref-2.ensures.value, c.deref-3.ensures.value, c.deref-4.ensures.value, c.deref-5.ensures.value, c.deref-6.ensures.value, c.deref-7.ensures.value, c.deref-8.ensures.value) at (IfOk-weaker c.finish.result (λ text. text.items ≡ text_in c.report.new.self) (λ text. text.items ≡ run_text hops run) (λ text e. e ∙ all) c.finish.ensures)

pub returns-clause-proper : goal.returns-clause-proper
returns-clause-proper c =
    let run : Told = record {
      routes = map entry_as c.deref.result.now;
      invalid = map invalid_as c.deref-2.result.now;
      changes = map (λ x. (x.0, change_as x.1)) c.deref-3.result.now;
      moves = map moves_as c.deref-4.result.now;
      answers = map answer_as c.deref-5.result.now;
      table = map entry_as c.deref-6.result.now;
      least = map entry_as c.deref-7.result.now;
      cert = map row_as c.deref-8.result.now;
      report = c.args.run.now.report;
    } in
    let hops = c.args.hops.now.list in
    let all = all_written hops run c.new-text.result c.entries.new.self c.invalids.new.self c.changes.new.self c.moves.new.self c.answers.new.self c.entries-2.new.self c.entries-3.new.self c.certificate.new.self c.report.new.self c.new-text.ensures.hops
    c.in_ok-entries.ensures c.in_ok-invalids.ensures c.in_ok-changes.ensures c.in_ok-moves.ensures c.in_ok-answers.ensures c.in_ok-entries-2.ensures c.in_ok-entries-3.ensures c.in_ok-certificate.ensures c.in_ok-report.ensures
    in
    on_ok c.finish.result _ (rw (c.deref.ensures.value, c.deref-2.ensures.value, c.deref-3.ensures.value, c.deref-4.ensures.value, c.deref-5.ensures.value, c.deref-6.ensures.value, c.deref-7.ensures.value, c.deref-8.ensures.value) at all.proper)
