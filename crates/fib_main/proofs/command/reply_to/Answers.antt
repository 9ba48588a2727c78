use Rattle.std.proofs.Common.{ℕ, ap, refl}
use Rattle.std.proofs.lemmas.Result.{err_from_is_err_and}
use Rattle.fib_words.specs.Commands.{asked_as}
use Rattle.fib_run.proofs.Printing.{run_yes}
use Rattle.fib_run.proofs.Making.{check_own, own_refused, kept_reads, some_refused}
use Rattle.fib_due.proofs.Replies.{claim_run_none, claim_save_none, moves_run_none, moves_save_none, ran_replied, ran_stops, save_runs_none}
use Rattle.fib_texts.proofs.Saving.{saves_due}
use Rattle.fib_run.proofs.Stepped.{check_gives, make_gives, run_gives, some_replied, some_steps_refused, steps_refused, steps_replied}
use Rattle.fib_main.proofs.command.reply_to.Goals as goal

pub returns-in_ok-text-in-Run-clause-due : goal.returns-in_ok-text-in-Run-clause-due
returns-in_ok-text-in-Run-clause-due g c = ran_replied _ _ _ _ _ (ap asked_as c.in-Run.is) c.reply_of.ensures c.in_ok-text-in-Run.ensures.due

pub returns-in_ok-text-in-Run-clause-due_yes : goal.returns-in_ok-text-in-Run-clause-due_yes
returns-in_ok-text-in-Run-clause-due_yes g c = run_yes _ _ _ _ (ap asked_as c.in-Run.is) c.in_ok-text-in-Run.ensures.due c.in_ok-text-in-Run.ensures.yes

pub returns-in_err-text-in-Run-clause-some : goal.returns-in_err-text-in-Run-clause-some
returns-in_err-text-in-Run-clause-some g c =
    let p = err_from_is_err_and c.from_residual.result c.from_residual.ensures.1 in
    rw (p.1, p.2) (some_refused ℕ _ _ _ _ (ap asked_as c.in-Run.is) c.in_err-text-in-Run.ensures.some)

pub returns-in_err-text-in-Make-clause-cause : goal.returns-in_err-text-in-Make-clause-cause
returns-in_err-text-in-Make-clause-cause g c =
    let p = err_from_is_err_and c.from_residual-in_err-text-in-Make.result c.from_residual-in_err-text-in-Make.ensures.1 in
    rw (p.1, p.2) (kept_reads _ _ _ _ refl c.in_err-text-in-Make.ensures.sure)

pub returns-in_ok-text-in-Steps-clause-due : goal.returns-in_ok-text-in-Steps-clause-due
returns-in_ok-text-in-Steps-clause-due g c = (steps_replied _ _ _ (ap asked_as c.in-Steps.is) _ c.in_ok-text-in-Steps.text c.reply_of-in-Steps.result c.reply_of-in-Steps.ensures c.in_ok-text-in-Steps.ensures.gives).0

pub returns-in_ok-text-in-Steps-clause-steps : goal.returns-in_ok-text-in-Steps-clause-steps
returns-in_ok-text-in-Steps-clause-steps g c = (steps_replied _ _ _ (ap asked_as c.in-Steps.is) _ c.in_ok-text-in-Steps.text c.reply_of-in-Steps.result c.reply_of-in-Steps.ensures c.in_ok-text-in-Steps.ensures.gives).1

pub returns-in_ok-text-in-Steps-clause-some : goal.returns-in_ok-text-in-Steps-clause-some
returns-in_ok-text-in-Steps-clause-some g c = some_replied _ _ _ (ap asked_as c.in-Steps.is) _ c.in_ok-text-in-Steps.text c.reply_of-in-Steps.result c.reply_of-in-Steps.ensures c.in_ok-text-in-Steps.ensures.some

pub returns-in_err-text-in-Steps-clause-due : goal.returns-in_err-text-in-Steps-clause-due
returns-in_err-text-in-Steps-clause-due g c =
    let p = err_from_is_err_and c.from_residual-in_err-text-in-Steps.result c.from_residual-in_err-text-in-Steps.ensures.1 in
    rw (p.1, p.2) (steps_refused _ _ _ (ap asked_as c.in-Steps.is) ℕ _ c.in_err-text-in-Steps.ensures.gives).0

pub returns-in_err-text-in-Steps-clause-steps : goal.returns-in_err-text-in-Steps-clause-steps
returns-in_err-text-in-Steps-clause-steps g c =
    let p = err_from_is_err_and c.from_residual-in_err-text-in-Steps.result c.from_residual-in_err-text-in-Steps.ensures.1 in
    rw (p.1, p.2) (steps_refused _ _ _ (ap asked_as c.in-Steps.is) ℕ _ c.in_err-text-in-Steps.ensures.gives).1

pub returns-in_err-text-in-Steps-clause-some : goal.returns-in_err-text-in-Steps-clause-some
returns-in_err-text-in-Steps-clause-some g c =
    let p = err_from_is_err_and c.from_residual-in_err-text-in-Steps.result c.from_residual-in_err-text-in-Steps.ensures.1 in
    rw (p.1, p.2) (some_steps_refused _ _ _ (ap asked_as c.in-Steps.is) ℕ _ c.in_err-text-in-Steps.ensures.some)

pub returns-in_ok-text-in-Run-clause-steps : goal.returns-in_ok-text-in-Run-clause-steps
returns-in_ok-text-in-Run-clause-steps g c = run_gives _ _ _ _ (ap asked_as c.in-Run.is)

pub returns-in_err-text-in-Run-clause-steps : goal.returns-in_err-text-in-Run-clause-steps
returns-in_err-text-in-Run-clause-steps g c = run_gives _ _ _ _ (ap asked_as c.in-Run.is)

pub returns-in-Check-clause-steps : goal.returns-in-Check-clause-steps
returns-in-Check-clause-steps g c = check_gives _ _ _ _ (ap asked_as c.in-Check.is)

pub returns-in_ok-text-in-Make-clause-steps : goal.returns-in_ok-text-in-Make-clause-steps
returns-in_ok-text-in-Make-clause-steps g c = make_gives _ _ _ _ _ (ap asked_as c.in-Make.is)

pub returns-in_err-text-in-Make-clause-steps : goal.returns-in_err-text-in-Make-clause-steps
returns-in_err-text-in-Make-clause-steps g c = make_gives _ _ _ _ _ (ap asked_as c.in-Make.is)

pub returns-in_err-text-in-Run-clause-due : goal.returns-in_err-text-in-Run-clause-due
returns-in_err-text-in-Run-clause-due g c =
    let p = err_from_is_err_and c.from_residual.result c.from_residual.ensures.1 in
    rw (p.1, p.2) (ran_stops _ _ _ _ (ap asked_as c.in-Run.is) c.in_err-text-in-Run.ensures.due)

pub returns-in-Save-clause-due_yes : goal.returns-in-Save-clause-due_yes
returns-in-Save-clause-due_yes g c = save_runs_none _ _ _ c.save_for.result (ap asked_as c.in-Save.is)

pub returns-in-Save-clause-due_saves : goal.returns-in-Save-clause-due_saves
returns-in-Save-clause-due_saves g c = saves_due _ _ _ (ap asked_as c.in-Save.is) c.save_for.result c.save_for.ensures.holds

pub returns-in_err-text-in-Run-clause-own : goal.returns-in_err-text-in-Run-clause-own
returns-in_err-text-in-Run-clause-own g c =
    let p = err_from_is_err_and c.from_residual.result c.from_residual.ensures.1 in
    rw (p.1, p.2) (own_refused _ _ _ (ap asked_as c.in-Run.is) c.in_err-text-in-Run.ensures.stops)

pub returns-in-Check-clause-own : goal.returns-in-Check-clause-own
returns-in-Check-clause-own g c = check_own _ _ c.check_for.result (ap asked_as c.in-Check.is) c.check_for.ensures.stops

pub returns-in-Moves-clause-due_yes : goal.returns-in-Moves-clause-due_yes
returns-in-Moves-clause-due_yes g c = moves_run_none _ _ _ c.moves_for.result (ap asked_as c.in-Moves.is)

pub returns-in-Moves-clause-due_saves : goal.returns-in-Moves-clause-due_saves
returns-in-Moves-clause-due_saves g c = moves_save_none _ _ _ c.moves_for.result (ap asked_as c.in-Moves.is)

pub returns-in-CheckMoves-clause-due_yes : goal.returns-in-CheckMoves-clause-due_yes
returns-in-CheckMoves-clause-due_yes g c = claim_run_none _ _ _ c.check_moves_for.result (ap asked_as c.in-CheckMoves.is)

pub returns-in-CheckMoves-clause-due_saves : goal.returns-in-CheckMoves-clause-due_saves
returns-in-CheckMoves-clause-due_saves g c = claim_save_none _ _ _ c.check_moves_for.result (ap asked_as c.in-CheckMoves.is)
