use Rattle.std.proofs.Common.{false, [], ◌∷◌, sym, subst}
use Rattle.std.proofs.lemmas.Result.{err_from_is_err_and}
use Rattle.fib_words.specs.Commands.{steps_as}
use Rattle.fib_due.specs.declared.outcome.MrtInput.TheVariants.{Dump}
use Rattle.fib_io.specs.Causes.{Rose}
use Rattle.fib_due.specs.declared.outcome.Which.TheVariants as which
use Rattle.fib_due.specs.Stops.{FailsDue}
use Rattle.fib_due.specs.Ends.{ReadsBy}
use Rattle.fib_due.specs.Owned.{StopsAt}
use Rattle.fib_due.specs.Due.{load_at, steps_sizes}
use Rattle.fib_run.specs.Standing.{StateStands}
use Rattle.fib_run.proofs.Stands.{dump_stops, end_reads, load_ends, load_has_room}
use Rattle.fib_due.proofs.Due.{load_due, load_refused}
use Rattle.fib_io.specs.Reads.{Makes}
use Rattle.fib_due.specs.Passes.{StopsReading}
use Rattle.fib_due.specs.InTime.{StepsMayGoOn}
use Rattle.fib_run.proofs.Judging.{load_read, load_stopped}
use Rattle.fib_run.proofs.FeedPasses.{load_stops}
use Rattle.fib_run.proofs.stepping.load_of.Goals as goal

pub returns-in_err-feed_of-clause-due : goal.returns-in_err-feed_of-clause-due
returns-in_err-feed_of-clause-due g c =
    let z = steps_sizes (steps_as c.args.command.now) in
    let stands = subst (λ z. StateStands Dump (record { every = 0; fewest = false; steady = false; sizes = z }) [] [] c.new-state.result) c.sizes_of.ensures c.new-state.ensures.stands in
    let p = err_from_is_err_and c.from_residual.result c.from_residual.ensures.1 in
    let due = rw c.none-vrps.ensures at (c.in_err-feed_of.ensures.due (record { every = 0; fewest = false; steady = false; sizes = z }) [] stands) in
    rw (p.1, p.2) (load_refused z _ _ _ _ due)

pub returns-in-Err-clause-due : goal.returns-in-Err-clause-due
returns-in-Err-clause-due g c =
    let z = steps_sizes (steps_as c.args.command.now) in
    let stands = subst (λ z. StateStands Dump (record { every = 0; fewest = false; steady = false; sizes = z }) [] [] c.new-state.result) c.sizes_of.ensures c.new-state.ensures.stands in
    let load = rw c.none-vrps.ensures at (c.in_ok-feed_of.ensures.due (record { every = 0; fewest = false; steady = false; sizes = z }) [] stands) in
    subst (λ o. FailsDue o (load_at z (g.I.Inputs.content c.args.inputs.now) [] (steps_as c.args.command.now).dump)) (sym c.outcome_of_refusal.ensures) (load_ends (record { every = 0; fewest = false; steady = false; sizes = z }) _ _ _ load.0 c.in-Err.error load.2 (c.in-Err.ensures.short (record { every = 0; fewest = false; steady = false; sizes = z }) load.0.elems load.1.stands))

pub returns-in_err-feed_of-clause-stops : goal.returns-in_err-feed_of-clause-stops
returns-in_err-feed_of-clause-stops g c =
    let p = err_from_is_err_and c.from_residual.result c.from_residual.ensures.1 in
    rw (p.1, p.2) c.in_err-feed_of.ensures.stops

pub returns-in_err-feed_of-clause-cause : goal.returns-in_err-feed_of-clause-cause
returns-in_err-feed_of-clause-cause g c =
    let p = err_from_is_err_and c.from_residual.result c.from_residual.ensures.1 in
    rw (p.1, p.2) c.in_err-feed_of.ensures.cause

pub returns-in-Err-clause-stops : goal.returns-in-Err-clause-stops
returns-in-Err-clause-stops g c = subst (λ o. StopsAt which.Dump o) (sym c.outcome_of_refusal.ensures) (dump_stops c.in-Err.error)

pub returns-in-Err-clause-cause : goal.returns-in-Err-clause-cause
returns-in-Err-clause-cause g c =
    let name = (steps_as c.args.command.now).dump in
    let before = g.I.Inputs.faults c.args.inputs.now in
    subst (λ o. ReadsBy (Rose (before name) (g.I.Inputs.faults c.feed_of.new.inputs name)) before (g.I.Inputs.faults c.feed_of.new.inputs) o) (sym c.outcome_of_refusal.ensures) (end_reads _ _ _ c.in-Err.error c.in-Err.ensures.kinds c.in_ok-feed_of.ensures.cause)

pub returns-clause-due : goal.returns-clause-due
returns-clause-due g c =
    let z = steps_sizes (steps_as c.args.command.now) in
    let stands = subst (λ z. StateStands Dump (record { every = 0; fewest = false; steady = false; sizes = z }) [] [] c.new-state.result) c.sizes_of.ensures c.new-state.ensures.stands in
    let load = rw c.none-vrps.ensures at (c.in_ok-feed_of.ensures.due (record { every = 0; fewest = false; steady = false; sizes = z }) [] stands) in
    let ended = c.in_default.ensures.stands (record { every = 0; fewest = false; steady = false; sizes = z }) load.0.elems load.1.stands in
    (load.0, ended.engine, ended.sizes_are, load_due z _ _ _ load.0 load.2 (load_has_room (record { every = 0; fewest = false; steady = false; sizes = z }) load.0 _ ended))

pub returns-in_err-feed_of-clause-reads : goal.returns-in_err-feed_of-clause-reads
returns-in_err-feed_of-clause-reads g c =
    let z = steps_sizes (steps_as c.args.command.now) in
    let stands = subst (λ z. StateStands Dump (record { every = 0; fewest = false; steady = false; sizes = z }) [] [] c.new-state.result) c.sizes_of.ensures c.new-state.ensures.stands in
    let p = err_from_is_err_and c.from_residual.result c.from_residual.ensures.1 in
    rw (p.1, p.2) (load_stopped (g.I.Inputs.content c.args.inputs.now) (steps_as c.args.command.now) _ _ _ (rw c.none-vrps.ensures at (c.in_err-feed_of.ensures.reads (record { every = 0; fewest = false; steady = false; sizes = z }) [] stands)))

pub returns-in-Err-clause-reads : goal.returns-in-Err-clause-reads
returns-in-Err-clause-reads g c =
    let named = steps_as c.args.command.now in
    let content = g.I.Inputs.content c.args.inputs.now in
    let z = steps_sizes named in
    let stands = subst (λ z. StateStands Dump (record { every = 0; fewest = false; steady = false; sizes = z }) [] [] c.new-state.result) c.sizes_of.ensures c.new-state.ensures.stands in
    subst (λ o. Makes (g.I.Inputs.reads c.args.inputs.now) (g.I.Inputs.reads c.feed_of.new.inputs) (StopsReading content (StepsMayGoOn named) ((which.Dump, named.dump) ∷ []) o)) (sym c.outcome_of_refusal.ensures)
    (load_stops content (StepsMayGoOn named) _ _ named.dump c.in-Err.error c.in-Err.ensures.kinds (load_read content named _ _ (rw c.none-vrps.ensures at (c.in_ok-feed_of.ensures.reads (record { every = 0; fewest = false; steady = false; sizes = z }) [] stands))))

pub returns-clause-reads : goal.returns-clause-reads
returns-clause-reads g c =
    let named = steps_as c.args.command.now in
    let z = steps_sizes named in
    let stands = subst (λ z. StateStands Dump (record { every = 0; fewest = false; steady = false; sizes = z }) [] [] c.new-state.result) c.sizes_of.ensures c.new-state.ensures.stands in
    load_read (g.I.Inputs.content c.args.inputs.now) named _ _ (rw c.none-vrps.ensures at (c.in_ok-feed_of.ensures.reads (record { every = 0; fewest = false; steady = false; sizes = z }) [] stands))
