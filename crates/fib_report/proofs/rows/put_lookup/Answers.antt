use Rattle.std.proofs.Common.{[], ◌∷◌, ap, arith, subst}
use Rattle.fib_addr.specs.Hops.{hop_at}
use Rattle.fib_addr.specs.Views.{addr_as}
use Rattle.printed_text.specs.Rows.{IsHop, PrintedRow, answer_row, visits_row, line_of}
use Rattle.fib_report.specs.Writing.{AddsRows}
use Rattle.fib_report.proofs.Loops.{AddsRows-one, AddsRows-before}
use Rattle.fib_report.proofs.Proper.{address_proper, hop_proper}
use Rattle.fib_report.proofs.rows.put_lookup.Goals as goal

pub returns-clause-added : goal.returns-clause-added
returns-clause-added g c =
    let a = c.args.answer.now in
    let visits : PrintedRow = visits_row (addr_as a.addr) a.visits in
    let hop = ap (answer_row (addr_as a.addr)) c.addr.ensures in
    let first = subst (λ row. AddsRows g.W.Write.contents c.args.out.now c.put_answer.new.out (line_of row)) hop c.in_ok-put_answer.ensures in
    let second = subst (λ n. AddsRows g.W.Write.contents c.put_answer.new.out c.put_visits.new.out (line_of (visits_row (addr_as a.addr) n))) c.from-visits.ensures c.in_ok-put_visits.ensures in
    AddsRows-before _ _ _ _ (answer_row (addr_as a.addr) (hop_at c.args.hops.now a.hop.0)) (visits ∷ []) first (AddsRows-one _ _ _ visits second)

pub returns-clause-proper : goal.returns-clause-proper
returns-clause-proper g c =
    let a = c.args.answer.now in
    ((address_proper a.addr, subst IsHop c.addr.ensures (hop_proper c.addr.result)), ((address_proper a.addr, omega arith), tt))
