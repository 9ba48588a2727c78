use Rattle.std.proofs.Common.{[], ◌∷◌, inl, refl, sym, subst}
use Rattle.std.proofs.lemmas.Result.{err_from_is_err_and}
use Rattle.fib_words.specs.Commands.{named_as}
use Rattle.fib_due.specs.Due.{feed_at, feeds_at, limits_of, no_feed}
use Rattle.fib_due.specs.Stops.{FailsDue}
use Rattle.fib_due.proofs.Due.{dump_fails, feeds_due, load_fits, reads_more}
use Rattle.fib_due.specs.Ends.{OneRose, feeds_named}
use Rattle.fib_run.proofs.Stands.{end_fails, load_has_room}
use Rattle.fib_due.specs.declared.outcome.Which.TheVariants as which
use Rattle.fib_due.specs.Passes.{StopsReading, feed_inputs, input_for}
use Rattle.fib_io.specs.Reads.{Makes}
use Rattle.fib_due.specs.InTime.{RunMayGoOn}
use Rattle.fib_run.proofs.Judging.{dump_read, dump_stops, updates_end}
use Rattle.fib_due.proofs.Passes.{all_next, nothing_read, stopped_first}
use Rattle.fib_run.proofs.FeedPasses.{load_stops}
use Rattle.fib_due.specs.Owned.{StopsAt}
use Rattle.fib_run.proofs.Stands as stands
use Rattle.fib_run.proofs.run.feed_load.Goals as goal

pub returns-in_err-load-clause-due : goal.returns-in_err-load-clause-due
returns-in_err-load-clause-due g c = λ s.
    let p = err_from_is_err_and c.from_residual.result c.from_residual.ensures.1 in
    rw (p.1, p.2) (dump_fails _ _ _ _ (c.in_err-load.ensures.due _ [] s))

pub returns-in_err-load-clause-stops : goal.returns-in_err-load-clause-stops
returns-in_err-load-clause-stops g c =
    let p = err_from_is_err_and c.from_residual.result c.from_residual.ensures.1 in
    rw (p.1, p.2) (which.Dump, tt, c.in_err-load.ensures.stops)

pub returns-in_err-load-clause-cause : goal.returns-in_err-load-clause-cause
returns-in_err-load-clause-cause g c = λ s.
    let p = err_from_is_err_and c.from_residual.result c.from_residual.ensures.1 in
    let named = named_as c.args.command.now in
    rw (p.1, p.2) (reads_more _ (OneRose (feeds_named (g.I.Inputs.content c.args.inputs.now) c.args.vrps.now named) (g.I.Inputs.faults c.args.inputs.now) (g.I.Inputs.faults c.feed_of.new.inputs)) _ _ _ (λ r. inl r) c.in_err-load.ensures.cause)

pub returns-in-Err-clause-due : goal.returns-in-Err-clause-due
returns-in-Err-clause-due g c = λ s.
    let named = named_as c.args.command.now in
    let load = c.in_ok-load.ensures.due (limits_of named) [] s in
    subst (λ o. FailsDue o (feeds_at (g.I.Inputs.content c.args.inputs.now) c.args.vrps.now named)) (sym c.outcome_of_refusal.ensures) (end_fails _ _ named load.0 c.in-Err.error load.2 (c.in-Err.ensures.short (limits_of named) load.0.elems load.1.stands))

pub returns-in_err-load-clause-reads : goal.returns-in_err-load-clause-reads
returns-in_err-load-clause-reads g c = λ s.
    let p = err_from_is_err_and c.from_residual.result c.from_residual.ensures.1 in
    let named = named_as c.args.command.now in
    let content = g.I.Inputs.content c.args.inputs.now in
    rw (p.1, p.2) (stopped_first content (RunMayGoOn content named) _ _ ((which.Dump, named.dump) ∷ []) (input_for which.Updates named.updates) _ (dump_stops content named _ _ _ _ c.requires.told (c.in_err-load.ensures.reads (limits_of named) [] s)))

pub returns-in-Err-clause-reads : goal.returns-in-Err-clause-reads
returns-in-Err-clause-reads g c = λ s.
    let named = named_as c.args.command.now in
    let content = g.I.Inputs.content c.args.inputs.now in
    subst (λ o. Makes (g.I.Inputs.reads c.args.inputs.now) (g.I.Inputs.reads c.feed_of.new.inputs) (StopsReading content (RunMayGoOn content named) (feed_inputs named) o)) (sym c.outcome_of_refusal.ensures)
    (stopped_first content (RunMayGoOn content named) _ _ ((which.Dump, named.dump) ∷ []) (input_for which.Updates named.updates) _ (load_stops content (RunMayGoOn content named) _ _ named.dump c.in-Err.error c.in-Err.ensures.kinds (dump_read content named _ _ _ c.requires.told (c.in_ok-load.ensures.reads (limits_of named) [] s))))

pub returns-in-Err-clause-stops : goal.returns-in-Err-clause-stops
returns-in-Err-clause-stops g c = (which.Dump, tt, subst (λ o. StopsAt which.Dump o) (sym c.outcome_of_refusal.ensures) (stands.dump_stops c.in-Err.error))

pub returns-in-Ok-clause-due : goal.returns-in-Ok-clause-due
unfolding feed_at
returns-in-Ok-clause-due g c = λ s.
    let named = named_as c.args.command.now in
    let load = c.in_ok-load.ensures.due (limits_of named) [] s in
    let ends = c.in-Ok.ensures.ends (limits_of named) load.0.elems c.requires.order load.1.stands in
    let fits = load_fits _ _ named load.0 load.2 (load_has_room (limits_of named) load.0 _ ends.1) in
    (ends.0, ((load.0, no_feed), record { counted = load.1.counted; has = record { counted = c.no_counts-updates.ensures; stands = ends.1 } }, feeds_due _ _ named load.0 no_feed fits (rw c.requires.alone refl)), ends.2)

pub returns-in-Ok-clause-reads : goal.returns-in-Ok-clause-reads
returns-in-Ok-clause-reads g c = λ s.
    let named = named_as c.args.command.now in
    let content = g.I.Inputs.content c.args.inputs.now in
    let load = c.in_ok-load.ensures.due (limits_of named) [] s in
    let ends = c.in-Ok.ensures.ends (limits_of named) load.0.elems c.requires.order load.1.stands in
    let fits = load_fits _ _ named load.0 load.2 (load_has_room (limits_of named) load.0 _ ends.1) in
    all_next content (RunMayGoOn content named) _ _ _ ((which.Dump, named.dump) ∷ []) (input_for which.Updates named.updates) (dump_read content named _ _ _ c.requires.told (c.in_ok-load.ensures.reads (limits_of named) [] s)) (updates_end content named _ load.0 _ _ c.requires.told fits (rw c.requires.alone (nothing_read _)))
