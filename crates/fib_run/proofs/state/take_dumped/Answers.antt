use Rattle.std.proofs.Common.{◌+◌, ◌<◌, ◌^◌, ◌∷◌, [], sym, ap, refl, arith}
use Rattle.std.proofs.lemmas.Result.{err_from_is_err_and}
use Rattle.route_model.specs.Choice.{elems_of}
use Rattle.fib_due.specs.declared.outcome.MrtInput.TheVariants.{Dump}
use Rattle.fib_prefix.specs.Views.{elem_as, event_as}
use Rattle.fib_prefix.specs.declared.event.Elem.TheVariants.{Put}
use Rattle.fib_run.proofs.Counting.{counts_one, fits_elems}
use Rattle.fib_run.proofs.Steps.{event_refused, event_taken}
use Rattle.fib_run.proofs.state.take_dumped.Goals as goal

pub overflow_add-count : goal.overflow_add-count
overflow_add-count c =
    let held = c.args.state.now.engine.candidates in
    let put = Put c.in-Announce.via c.in-Announce.prefix c.in-Announce.path c.in-Announce.hop in
    let fits : c.args.before + 1 < 2 ^ 64 = fits_elems elem_as (put ∷ []) held (event_as c.args.event.now) _ c.requires.few (sym (ap (λ e. elems_of held (event_as e)) c.in-Announce.is)) in
    omega (arith, fits)

pub returns-in_ok-load_step-in-Announce-clause-takes : goal.returns-in_ok-load_step-in-Announce-clause-takes
returns-in_ok-load_step-in-Announce-clause-takes c =
    let held = c.args.state.now.engine.candidates in
    event_taken Dump (event_as c.args.event.now) _ c.args.before c.args.state.now _ (sym (ap (λ e. elems_of held (event_as e)) c.in-Announce.is)) c.in_ok-load_step-in-Announce.ensures.takes

pub returns-in_ok-load_step-in-Announce-clause-counts : goal.returns-in_ok-load_step-in-Announce-clause-counts
returns-in_ok-load_step-in-Announce-clause-counts c =
    let held = c.args.state.now.engine.candidates in
    counts_one held _ (event_as c.args.event.now) _ c.args.before _ (sym (ap (λ e. elems_of held (event_as e)) c.in-Announce.is)) refl c.in_ok-load_step-in-Announce.ensures.candidates

pub returns-in_err-load_step-in-Announce-clause-takes : goal.returns-in_err-load_step-in-Announce-clause-takes
returns-in_err-load_step-in-Announce-clause-takes c =
    let held = c.args.state.now.engine.candidates in
    let p = err_from_is_err_and c.from_residual.result c.from_residual.ensures.1 in
    rw (p.1, p.2) (event_refused Dump (event_as c.args.event.now) _ c.args.before c.args.state.now _ _ _ (sym (ap (λ e. elems_of held (event_as e)) c.in-Announce.is)) c.in_err-load_step-in-Announce.ensures.takes)

pub returns-in_err-load_step-in-Announce-clause-numbered : goal.returns-in_err-load_step-in-Announce-clause-numbered
returns-in_err-load_step-in-Announce-clause-numbered c =
    let p = err_from_is_err_and c.from_residual.result c.from_residual.ensures.1 in
    rw (p.1, p.2) c.in_err-load_step-in-Announce.ensures.numbered
