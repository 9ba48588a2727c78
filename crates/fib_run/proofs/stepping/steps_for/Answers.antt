use Rattle.std.proofs.Common.{ℕ, Ok, Err, [], ◌∷◌, map, inl, inr}
use Rattle.std.proofs.lemmas.Result.{err_from_is_err_and}
use Rattle.step_script.specs.Steps.{step_as}
use Rattle.fib_words.specs.Commands.{steps_as}
use Rattle.fib_due.specs.declared.outcome.Which.TheVariants as which
use Rattle.fib_due.specs.Due.{script_at}
use Rattle.fib_run.proofs.Stepped.{first_read, later_read, script_gives, script_stops}
use Rattle.fib_due.specs.Passes.{load_inputs}
use Rattle.fib_due.specs.InTime.{StepsMayGoOn}
use Rattle.fib_run.proofs.Judging.{script_end, script_stopped}
use Rattle.fib_due.proofs.Passes.{all_next, stopped_first, stopped_next}
use Rattle.fib_run.proofs.stepping.steps_for.Goals as goal

pub returns-in_err-script-clause-gives : goal.returns-in_err-script-clause-gives
returns-in_err-script-clause-gives g c =
    let p = err_from_is_err_and c.from_residual.result c.from_residual.ensures.1 in
    rw (p.1, p.2) (script_stops _ (steps_as c.args.command.now) ℕ _ c.in_err-script.ensures.due)

pub returns-in_err-script-clause-some : goal.returns-in_err-script-clause-some
returns-in_err-script-clause-some g c =
    let p = err_from_is_err_and c.from_residual.result c.from_residual.ensures.1 in
    rw (p.1, p.2) (inl c.in_err-script.ensures.stops)

pub returns-in_err-script-clause-stops : goal.returns-in_err-script-clause-stops
returns-in_err-script-clause-stops g c =
    let p = err_from_is_err_and c.from_residual.result c.from_residual.ensures.1 in
    rw (p.1, p.2) (which.Script, tt, c.in_err-script.ensures.stops)

pub returns-in_err-script-clause-cause : goal.returns-in_err-script-clause-cause
returns-in_err-script-clause-cause g c =
    let p = err_from_is_err_and c.from_residual.result c.from_residual.ensures.1 in
    rw (p.1, p.2) (first_read (steps_as c.args.command.now).script _ _ _ _ c.in_err-script.ensures.cause)

pub rows_of-requires-clause-few : goal.rows_of-requires-clause-few
rows_of-requires-clause-few g c = rw c.deref.ensures.value c.in_ok-script.ensures.few

pub returns-in_err-text-clause-gives : goal.returns-in_err-text-clause-gives
returns-in_err-text-clause-gives g c =
    let p = err_from_is_err_and c.from_residual-in_err-text.result c.from_residual-in_err-text.ensures.1 in
    let gives = rw (c.deref.ensures.value, c.in_ok-script.ensures.same) at c.in_err-text.ensures.gives in
    rw (p.1, p.2) (script_gives _ (steps_as c.args.command.now) ℕ (map step_as c.in_ok-script.script.items) (Err c.in_err-text.field-0.0) c.in_ok-script.ensures.due gives)

pub returns-in_err-text-clause-some : goal.returns-in_err-text-clause-some
returns-in_err-text-clause-some g c =
    let p = err_from_is_err_and c.from_residual-in_err-text.result c.from_residual-in_err-text.ensures.1 in
    let gives = rw (c.deref.ensures.value, c.in_ok-script.ensures.same) at c.in_err-text.ensures.gives in
    rw (p.1, p.2) (inr (map step_as c.in_ok-script.script.items, gives))

pub returns-in_err-text-clause-stops : goal.returns-in_err-text-clause-stops
returns-in_err-text-clause-stops g c =
    let p = err_from_is_err_and c.from_residual-in_err-text.result c.from_residual-in_err-text.ensures.1 in
    rw (p.1, p.2) c.in_err-text.ensures.stops

pub returns-in_err-text-clause-cause : goal.returns-in_err-text-clause-cause
returns-in_err-text-clause-cause g c =
    let p = err_from_is_err_and c.from_residual-in_err-text.result c.from_residual-in_err-text.ensures.1 in
    let named = steps_as c.args.command.now in
    let cause = rw c.in_ok-script.ensures.same at c.in_err-text.ensures.cause in
    rw (p.1, p.2) (later_read (script_at _ named.script) (map step_as c.in_ok-script.script.items) named.script _ _ _ _ _ c.in_ok-script.ensures.due c.in_ok-script.ensures.cause cause)

pub returns-clause-gives : goal.returns-clause-gives
returns-clause-gives g c =
    let gives = rw (c.deref.ensures.value, c.in_ok-script.ensures.same) at c.in_ok-text.ensures.gives in
    script_gives _ (steps_as c.args.command.now) _ (map step_as c.in_ok-script.script.items) (Ok c.in_ok-text.text) c.in_ok-script.ensures.due gives

pub returns-clause-some : goal.returns-clause-some
returns-clause-some g c =
    let gives = rw (c.deref.ensures.value, c.in_ok-script.ensures.same) at c.in_ok-text.ensures.gives in
    inr (map step_as c.in_ok-script.script.items, gives)

pub returns-in_err-script-clause-reads : goal.returns-in_err-script-clause-reads
returns-in_err-script-clause-reads g c =
    let p = err_from_is_err_and c.from_residual.result c.from_residual.ensures.1 in
    let named = steps_as c.args.command.now in
    rw (p.1, p.2) (stopped_first (g.I.Inputs.content c.args.inputs.now) (StepsMayGoOn named) _ _ ((which.Script, named.script) ∷ []) (load_inputs named) _ (script_stopped (g.I.Inputs.content c.args.inputs.now) named _ _ _ c.in_err-script.ensures.reads))

pub returns-in_err-text-clause-reads : goal.returns-in_err-text-clause-reads
returns-in_err-text-clause-reads g c =
    let p = err_from_is_err_and c.from_residual-in_err-text.result c.from_residual-in_err-text.ensures.1 in
    let named = steps_as c.args.command.now in
    let later = rw c.in_ok-script.ensures.same at c.in_err-text.ensures.reads in
    rw (p.1, p.2) (stopped_next (g.I.Inputs.content c.args.inputs.now) (StepsMayGoOn named) _ _ _ ((which.Script, named.script) ∷ []) (load_inputs named) _ (script_end (g.I.Inputs.content c.args.inputs.now) named _ _ c.in_ok-script.ensures.reads) later)

pub returns-clause-reads : goal.returns-clause-reads
returns-clause-reads g c =
    let named = steps_as c.args.command.now in
    let later = rw c.in_ok-script.ensures.same at c.in_ok-text.ensures.reads in
    all_next (g.I.Inputs.content c.args.inputs.now) (StepsMayGoOn named) _ _ _ ((which.Script, named.script) ∷ []) (load_inputs named) (script_end (g.I.Inputs.content c.args.inputs.now) named _ _ c.in_ok-script.ensures.reads) later
