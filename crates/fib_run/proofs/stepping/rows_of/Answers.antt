use Rattle.std.proofs.Common.{ℕ, Err, [], ◌∷◌, map, sym, subst}
use Rattle.std.proofs.lemmas.Result.{err_from_is_err_and}
use Rattle.fib_prefix.specs.Views.{event_as}
use Rattle.step_script.specs.Steps.{step_as}
use Rattle.router_steps.specs.Stepping.{IsTextOf, world_of}
use Rattle.router_steps.specs.Runs.{StepsEndBy}
use Rattle.fib_words.specs.Commands.{Steps, steps_as}
use Rattle.fib_due.specs.declared.outcome.Which.TheVariants as which
use Rattle.fib_due.specs.Due.{load_at, steps_sizes, with_world, world_at}
use Rattle.fib_run.specs.Loaded.{of_step}
use Rattle.fib_due.specs.Owned.{StopsIn}
use Rattle.fib_due.specs.Untold.{GivesText}
use Rattle.fib_run.proofs.Stepped.{dump_stops, early_due, early_of, first_read, is_of_step, later_read, step_stops, text_due, updates_stop, world_due}
use Rattle.fib_io.specs.Reads.{Makes}
use Rattle.fib_due.specs.Passes.{StopsReading, load_inputs}
use Rattle.fib_due.specs.InTime.{StepsMayGoOn}
use Rattle.fib_run.proofs.Judging.{events_end, events_stopped}
use Rattle.fib_due.proofs.Passes.{all_next, stopped_first, stopped_next}
use Rattle.fib_run.proofs.FeedPasses.{step_stops_reading}
use Rattle.fib_run.proofs.stepping.rows_of.Goals as goal

pub returns-in_err-engine-clause-gives : goal.returns-in_err-engine-clause-gives
returns-in_err-engine-clause-gives g c =
    let p = err_from_is_err_and c.from_residual.result c.from_residual.ensures.1 in
    rw (p.1, p.2) (dump_stops _ (steps_as c.args.command.now) ℕ (map step_as c.args.script.now) _ c.in_err-engine.ensures.due)

pub returns-in_err-engine-clause-stops : goal.returns-in_err-engine-clause-stops
returns-in_err-engine-clause-stops g c =
    let p = err_from_is_err_and c.from_residual.result c.from_residual.ensures.1 in
    rw (p.1, p.2) (which.Dump, tt, c.in_err-engine.ensures.stops)

pub returns-in_err-engine-clause-cause : goal.returns-in_err-engine-clause-cause
returns-in_err-engine-clause-cause g c =
    let p = err_from_is_err_and c.from_residual.result c.from_residual.ensures.1 in
    rw (p.1, p.2) (first_read (steps_as c.args.command.now).dump _ _ _ _ c.in_err-engine.ensures.cause)

pub returns-in_err-events-clause-gives : goal.returns-in_err-events-clause-gives
returns-in_err-events-clause-gives g c =
    let p = err_from_is_err_and c.from_residual-in_err-events.result c.from_residual-in_err-events.ensures.1 in
    let load = c.in_ok-engine.ensures.due in
    let fails = rw c.in_ok-engine.ensures.same at c.in_err-events.ensures.due in
    rw (p.1, p.2) (updates_stop _ (steps_as c.args.command.now) ℕ (map step_as c.args.script.now) load.0 _ load.3 fails)

pub returns-in_err-events-clause-stops : goal.returns-in_err-events-clause-stops
returns-in_err-events-clause-stops g c =
    let p = err_from_is_err_and c.from_residual-in_err-events.result c.from_residual-in_err-events.ensures.1 in
    rw (p.1, p.2) (which.Updates, tt, c.in_err-events.ensures.stops)

pub returns-in_err-events-clause-cause : goal.returns-in_err-events-clause-cause
returns-in_err-events-clause-cause g c =
    let p = err_from_is_err_and c.from_residual-in_err-events.result c.from_residual-in_err-events.ensures.1 in
    let named = steps_as c.args.command.now in
    let load = c.in_ok-engine.ensures.due in
    rw (p.1, p.2) (later_read (load_at (steps_sizes named) _ [] named.dump) load.0 named.dump (named.updates ∷ []) _ _ _ _ load.3 c.in_ok-engine.ensures.cause (first_read named.updates [] _ _ _ c.in_err-events.ensures.cause))

pub run_steps-requires-clause-stands : goal.run_steps-requires-clause-stands
run_steps-requires-clause-stands g c = let load = c.in_ok-engine.ensures.due in (load.0.elems, load.1)

pub returns-in-Ok-clause-gives : goal.returns-in-Ok-clause-gives
returns-in-Ok-clause-gives g c =
    let named = steps_as c.args.command.now in
    let script = map step_as c.args.script.now in
    let load = c.in_ok-engine.ensures.due in
    let later = rw c.in_ok-engine.ensures.same at c.in_ok-events.ensures.due in
    let events = map event_as c.in_ok-events.events.items in
    let text = rw c.deref.ensures.value at (c.in-Ok.ensures.text load.0.elems load.1) in
    text_due _ script (world_at (g.I.Inputs.content c.args.inputs.now) named) _ c.in-Ok.text (world_due _ named load.0 events load.3 later)
    (subst (λ z. IsTextOf (record { script = script; world = world_of z load.0.elems events }) c.in-Ok.text.items) load.2 text)

pub returns-clause-gives : goal.returns-clause-gives
returns-clause-gives g c =
    let named = steps_as c.args.command.now in
    let script = map step_as c.args.script.now in
    let load = c.in_ok-engine.ensures.due in
    let later = rw c.in_ok-engine.ensures.same at c.in_ok-events.ensures.due in
    let events = map event_as c.in_ok-events.events.items in
    let w = world_of (steps_sizes named) load.0.elems events in
    let ends = rw c.deref.ensures.value at (c.in-Err.ensures.stops load.0.elems load.1) in
    let early = early_of script w c.in-Err.error (subst (λ z. StepsEndBy (world_of z load.0.elems events) script c.in-Err.error) load.2 ends) in
    let due = world_at (g.I.Inputs.content c.args.inputs.now) named in
    subst (λ o. GivesText {X = ℕ} (with_world script due) (Err o)) (sym c.outcome_of_step.ensures) (early_due ℕ script due w (of_step c.in-Err.error) (world_due _ named load.0 events load.3 later) (is_of_step c.in-Err.error) early)

pub returns-clause-stops : goal.returns-clause-stops
returns-clause-stops g c = let named = steps_as c.args.command.now in subst (λ o. StopsIn (Steps named) o) (sym c.outcome_of_step.ensures) (step_stops named c.in-Err.error)

pub returns-in_err-engine-clause-reads : goal.returns-in_err-engine-clause-reads
returns-in_err-engine-clause-reads g c =
    let p = err_from_is_err_and c.from_residual.result c.from_residual.ensures.1 in
    let named = steps_as c.args.command.now in
    rw (p.1, p.2) (stopped_first (g.I.Inputs.content c.args.inputs.now) (StepsMayGoOn named) _ _ ((which.Dump, named.dump) ∷ []) ((which.Updates, named.updates) ∷ []) _ c.in_err-engine.ensures.reads)

pub returns-in_err-events-clause-reads : goal.returns-in_err-events-clause-reads
returns-in_err-events-clause-reads g c =
    let p = err_from_is_err_and c.from_residual-in_err-events.result c.from_residual-in_err-events.ensures.1 in
    let named = steps_as c.args.command.now in
    let later = rw c.in_ok-engine.ensures.same at c.in_err-events.ensures.reads in
    rw (p.1, p.2) (stopped_next (g.I.Inputs.content c.args.inputs.now) (StepsMayGoOn named) _ _ _ ((which.Dump, named.dump) ∷ []) ((which.Updates, named.updates) ∷ []) _ c.in_ok-engine.ensures.reads (events_stopped (g.I.Inputs.content c.args.inputs.now) named _ _ _ later))

pub returns-in-Ok-clause-reads : goal.returns-in-Ok-clause-reads
returns-in-Ok-clause-reads g c =
    let named = steps_as c.args.command.now in
    let later = rw c.in_ok-engine.ensures.same at c.in_ok-events.ensures.reads in
    all_next (g.I.Inputs.content c.args.inputs.now) (StepsMayGoOn named) _ _ _ ((which.Dump, named.dump) ∷ []) ((which.Updates, named.updates) ∷ []) c.in_ok-engine.ensures.reads (events_end (g.I.Inputs.content c.args.inputs.now) named _ _ later)

pub returns-clause-reads : goal.returns-clause-reads
returns-clause-reads g c =
    let named = steps_as c.args.command.now in
    let content = g.I.Inputs.content c.args.inputs.now in
    let load = c.in_ok-engine.ensures.due in
    let later = rw c.in_ok-engine.ensures.same at c.in_ok-events.ensures.reads in
    subst (λ o. Makes (g.I.Inputs.reads c.args.inputs.now) (g.I.Inputs.reads c.events_of.new.inputs) (StopsReading content (StepsMayGoOn named) (load_inputs named) o)) (sym c.outcome_of_step.ensures)
    (stopped_next content (StepsMayGoOn named) _ _ _ ((which.Dump, named.dump) ∷ []) ((which.Updates, named.updates) ∷ []) (of_step c.in-Err.error) c.in_ok-engine.ensures.reads
    (step_stops_reading content (StepsMayGoOn named) _ _ _ _ named.updates c.in-Err.error (c.in-Err.ensures.stops load.0.elems load.1) (events_end content named _ _ later)))
