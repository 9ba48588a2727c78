use Rattle.std.proofs.Common.{◌≡◌, ◌+◌, ◌++◌, List, [], ◌∷◌, take, map, length, sym, ap, ◌∙◌, arith, subst}
use Rattle.std.proofs.lemmas.Result.{err_from_is_err_and}
use Rattle.route_model.specs.Events.{Elem}
use Rattle.fib_prefix.specs.Views.{event_as}
use Rattle.fib_run.specs.Standing.{StateStands, next_elems}
use Rattle.fib_run.specs.Counts.{CountsOn}
use Rattle.fib_run.proofs.Counting.{counts_next, counts_none, fits_next}
use Rattle.fib_run.proofs.Steps.{refused_event, next_more, next_none, next_whole, one_of_more, take_next, all_taken}
use Rattle.fib_run.proofs.state.take_events.Goals as goal

pub returns-in_err-count-clause-takes : goal.returns-in_err-count-clause-takes
returns-in_err-count-clause-takes c =
    let p = err_from_is_err_and c.from_residual.result c.from_residual.ensures.1 in
    rw (p.1, p.2) (refused_event _ _ c.loop-event.count _ (event_as c.event-item.result) c.args.state.now c.loop-event.state c.take_event.new.state _ _ c.in_err-count.ensures.takes (λ limits before done counted s.
    let so_far = c.loop-event.invariant.taken limits before done counted s in
    let w = next_whole event_as c.args.events.now c.loop-event.event-index _ before done c.loop-event-test.true c.event-item.is in
    record {
      front = done ++ next_elems before done (map event_as (take c.loop-event.event-index c.args.events.now));
      rest = w.0;
      counted = so_far.0;
      stands = so_far.1;
      same = w.1;
    }))

pub loop-event-preserved : goal.loop-event-preserved
loop-event-preserved c =
    let here = take_next event_as c.args.events.now c.loop-event.event-index _ c.loop-event-test.true c.event-item.is in record {
      counts = counts_next _ _ _ _ (event_as c.event-item.result) _ _ _ _ c.loop-event.invariant.counts c.in_ok-count.ensures.counts here;
      ready = c.in_ok-count.ensures.ready;
      taken = λ limits before done counted s.
          let so_far = c.loop-event.invariant.taken limits before done counted s in
          let front : List Elem = done ++ next_elems before done (map event_as (take c.loop-event.event-index c.args.events.now)) in
          let now = c.in_ok-count.ensures.takes limits before front so_far.0 so_far.1 in
          let same : front ++ next_elems before front (event_as c.event-item.result ∷ []) ≡ done ++ next_elems before done (map event_as (take (c.loop-event.event-index + 1) c.args.events.now)) =
          next_more before done (map event_as (take c.loop-event.event-index c.args.events.now)) (event_as c.event-item.result ∷ []) ∙ ap (λ es. done ++ next_elems before done es) (sym here) in
          (now.0 ∙ ap length same, subst (λ es. StateStands c.args.which limits before es c.take_event.new.state) same now.1);
    }

pub loop-event-init : goal.loop-event-init
loop-event-init c = record {
  counts = counts_none c.args.state.now.engine.candidates c.args.before;
  ready = c.requires.ready;
  taken = λ limits before done counted s. (counted ∙ ap length (sym (next_none before done)), subst (λ es. StateStands c.args.which limits before es c.args.state.now) (sym (next_none before done)) s);
}

pub returns-clause-counts : goal.returns-clause-counts
returns-clause-counts c = subst (λ es. CountsOn c.args.state.now.engine.candidates es c.args.before c.loop-event.count c.loop-event.state.engine.candidates) (all_taken event_as c.args.events.now c.loop-event.event-index (omega (arith, c.loop-event-test.false))) c.loop-event.invariant.counts

pub returns-clause-takes : goal.returns-clause-takes
returns-clause-takes c = λ limits before done counted s.
    let so_far = c.loop-event.invariant.taken limits before done counted s in
    let P : List Elem → Type 0 = λ es. (c.loop-event.count ≡ length (done ++ es)) × StateStands c.args.which limits before (done ++ es) c.loop-event.state in
    subst P (ap (next_elems before done) (all_taken event_as c.args.events.now c.loop-event.event-index (omega (arith, c.loop-event-test.false)))) so_far

pub take_event-requires-clause-few : goal.take_event-requires-clause-few
take_event-requires-clause-few c = fits_next _ _ (map event_as (take c.loop-event.event-index c.args.events.now)) (event_as c.event-item.result ∷ []) _ _ _ _ c.requires.few c.loop-event.invariant.counts (one_of_more event_as c.args.events.now c.loop-event.event-index _ [] c.loop-event-test.true c.event-item.is)

pub returns-in_err-count-clause-numbered : goal.returns-in_err-count-clause-numbered
returns-in_err-count-clause-numbered c =
    let p = err_from_is_err_and c.from_residual.result c.from_residual.ensures.1 in
    rw (p.1, p.2) c.in_err-count.ensures.numbered
