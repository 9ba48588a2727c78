use Rattle.std.proofs.lemmas.Result.{err_from_is_err_and}
use Rattle.std.proofs.Common.{[], ◌∷◌, Option, ap}
use Rattle.fib_same.specs.Passes.{numbered_texts}
use Rattle.router_moves.specs.SaidViews.{said_moves_as}
use Rattle.router_moves.specs.declared.read.PrintedMoves.{PrintedMoves}
use Rattle.moves_model.specs.Claims.{WrongMoves}
use Rattle.router_moves.specs.Asking.{tables_as}
use Rattle.router_moves.specs.Checked.{Verdict}
use Rattle.router_moves.specs.Judged.{verdict_as}
use Rattle.router_moves.specs.declared.verdict.MovesVerdict.{MovesVerdict}
use Rattle.router_moves.proofs.Asking.{asked_fails, claimed, claimed_told, moves_cause, said_fails, verdict_told}
use Rattle.router_moves.proofs.Passing.{read_stops, third_stops, three_read, two_stop}
use Rattle.router_moves.proofs.check.check_router_moves.Goals as goal

pub returns-in_err-asked-clause-due : goal.returns-in_err-asked-clause-due
returns-in_err-asked-clause-due g c =
    let p = err_from_is_err_and c.from_residual.result c.from_residual.ensures.1 in
    rw (p.1, p.2) (asked_fails (g.I.Inputs.content c.args.inputs.now) c.args.router.now c.args.printed.now c.args.moves.now c.in_err-asked.field-0.0 c.in_err-asked.ensures.due)

pub returns-in_err-asked-clause-reads : goal.returns-in_err-asked-clause-reads
returns-in_err-asked-clause-reads g c =
    let p = err_from_is_err_and c.from_residual.result c.from_residual.ensures.1 in
    rw (p.1, p.2) (two_stop c.args.router.now c.args.printed.now c.args.moves.now c.in_err-asked.field-0.0 _ _ c.in_err-asked.ensures.reads)

pub returns-in_err-said-clause-due : goal.returns-in_err-said-clause-due
returns-in_err-said-clause-due g c =
    let p = err_from_is_err_and c.from_residual-in_err-said.result c.from_residual-in_err-said.ensures.1 in
    rw (p.1, p.2)
    (said_fails (g.I.Inputs.content c.args.inputs.now) c.args.router.now c.args.printed.now c.args.moves.now (g.I.Inputs.content c.read_asked.new.inputs) (tables_as c.in_ok-asked.asked c.read_asked.new.hops) c.in_err-said.field-0.0
    c.in_ok-asked.ensures.same c.in_ok-asked.ensures.due c.in_err-said.ensures.due)

pub returns-in_err-said-clause-cause : goal.returns-in_err-said-clause-cause
returns-in_err-said-clause-cause g c =
    let p = err_from_is_err_and c.from_residual-in_err-said.result c.from_residual-in_err-said.ensures.1 in
    rw (p.1, p.2)
    (moves_cause PrintedMoves MovesVerdict (g.I.Inputs.content c.args.inputs.now) c.args.router.now c.args.printed.now c.args.moves.now (tables_as c.in_ok-asked.asked c.read_asked.new.hops) (g.I.Inputs.faults c.args.inputs.now)
    (g.I.Inputs.faults c.read_asked.new.inputs) (g.I.Inputs.faults c.read_said.new.inputs) c.in_err-said.field-0.0 c.in_ok-asked.ensures.due c.in_ok-asked.ensures.cause c.in_err-said.ensures.cause)

pub returns-in_err-said-clause-reads : goal.returns-in_err-said-clause-reads
returns-in_err-said-clause-reads g c =
    let p = err_from_is_err_and c.from_residual-in_err-said.result c.from_residual-in_err-said.ensures.1 in
    rw (p.1, p.2) (third_stops c.args.router.now c.args.printed.now c.args.moves.now c.in_err-said.field-0.0 _ _ _ c.in_ok-asked.ensures.reads c.in_err-said.ensures.reads)

pub returns-in_err-wrong-clause-reads : goal.returns-in_err-wrong-clause-reads
returns-in_err-wrong-clause-reads g c =
    let p = err_from_is_err_and c.from_residual-in_err-wrong.result c.from_residual-in_err-wrong.ensures.1 in
    rw (p.1, p.2)
    (read_stops (numbered_texts 1 (c.args.router.now ∷ c.args.printed.now ∷ c.args.moves.now ∷ [])) _ _ (three_read c.args.router.now c.args.printed.now c.args.moves.now _ _ _ c.in_ok-asked.ensures.reads c.in_ok-said.ensures.reads))

pub returns-clause-reads : goal.returns-clause-reads
returns-clause-reads g c = three_read c.args.router.now c.args.printed.now c.args.moves.now _ _ _ c.in_ok-asked.ensures.reads c.in_ok-said.ensures.reads

pub returns-clause-judged : goal.returns-clause-judged
returns-clause-judged g c = (
  claimed (tables_as c.in_ok-asked.asked c.read_asked.new.hops) (said_moves_as c.in_ok-said.said c.read_said.new.hops),
  claimed_told (g.I.Inputs.content c.args.inputs.now) c.args.router.now c.args.printed.now c.args.moves.now (g.I.Inputs.content c.read_asked.new.inputs) (tables_as c.in_ok-asked.asked c.read_asked.new.hops) (said_moves_as c.in_ok-said.said c.read_said.new.hops)
      c.in_ok-asked.ensures.same c.in_ok-asked.ensures.due c.in_ok-said.ensures.due,
  ap (λ (w : Option WrongMoves). let v : Verdict = record { wrong = w; hops = c.read_said.new.hops.list } in v) c.in_ok-wrong.ensures.wrong,
  record { yes = c.in_ok-wrong.ensures.yes; no = c.in_ok-wrong.ensures.no },
)

pub returns-clause-due : goal.returns-clause-due
returns-clause-due g c =
    let j = returns-clause-judged g c in
    verdict_told (g.I.Inputs.content c.args.inputs.now) c.args.router.now c.args.printed.now c.args.moves.now j.0 (verdict_as (record { wrong = c.in_ok-wrong.wrong; hops = c.read_said.new.hops })) j.1 j.2
