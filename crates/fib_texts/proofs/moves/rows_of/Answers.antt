use Rattle.std.proofs.Common.{◌≡◌, map, ◌∙◌}
use Rattle.std.proofs.lemmas.Result.{IfOk-weaker}
use Rattle.fib_delta.specs.Views.{change_as}
use Rattle.cert_model.specs.Views.{row_as}
use Rattle.fib_report.specs.Sections.{text_in}
use Rattle.router_moves.specs.Views.{shortest_as}
use Rattle.fib_due.specs.RouterRows.{router_text}
use Rattle.fib_texts.proofs.RouterText.{router_written}
use Rattle.fib_texts.proofs.moves.rows_of.Goals as goal

pub returns : goal.returns
returns c =
    let m = c.args.moves.now in
    let all : text_in c.certificate-2.new.self ≡ router_text (shortest_as m) =
    router_written m.hops.list (map change_as m.v4.changes.items) (map change_as m.v6.changes.items) (map row_as m.v4.rows.items) (map row_as m.v6.rows.items) c.count.result c.new-text.result c.event.new.self c.event-2.new.self c.moves.new.self c.certificate.new.self c.certificate-2.new.self
    c.new-text.ensures.hops c.count.ensures (rw c.deref.ensures.value at c.in_ok-event.ensures) (rw c.deref-2.ensures.value at c.in_ok-event-2.ensures) c.in_ok-moves.ensures (rw c.deref-3.ensures.value at c.in_ok-certificate.ensures) (rw c.deref-4.ensures.value at c.in_ok-certificate-2.ensures) c.new-text.ensures.empty
    in
    IfOk-weaker c.finish.result (λ text. text.items ≡ text_in c.certificate-2.new.self) (λ text. text.items ≡ router_text (shortest_as m)) (λ text e. e ∙ all) c.finish.ensures
