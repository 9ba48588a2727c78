use Rattle.std.proofs.Common.{◌++◌, ◌∙◌, ap, arith, map, refl, subst, sym}
use Rattle.fib_prefix.specs.Views.{event_as}
use Rattle.fib_report.specs.Views.{invalid_as}
use Rattle.fib_rov.specs.Rov.{invalid_in}
use Rattle.std.proofs.lemmas.Result.{err_from_is_err_and}
use Rattle.fib_io.proofs.Passing.{pass_begins, pass_of_none, pass_stops}
use Rattle.fib_io.proofs.Timing.{pass_of_none_in_time, passes_in_time, time_begins}
use Rattle.fib_due.specs.Due.{feed_at}
use Rattle.fib_due.specs.InTime.{FeedMayGoOn}
use Rattle.fib_run.proofs.FeedPasses.{feeds_end_of_read, read_numbered, taken_end}
use Rattle.mrt_read.proofs.Nexts.{cuts_in_time, leads_on, passes_on}
use Rattle.fib_run.proofs.Streaming.{brings_all, few_all, left_whole, next_event, next_fits, next_may_go_on, next_refused, next_takes, Streaming, streaming_fed, streaming_start}
use Rattle.fib_run.proofs.feed.feed.Goals as goal

pub returns-in_err-reader-clause-reads : goal.returns-in_err-reader-clause-reads
returns-in_err-reader-clause-reads g c =
    let p = err_from_is_err_and c.from_residual.result c.from_residual.ensures.1 in
    rw (p.1, p.2) (pass_of_none _ c.args.name.now)

pub returns-in_err-reader-clause-in_time : goal.returns-in_err-reader-clause-in_time
returns-in_err-reader-clause-in_time g c = λ limits before s.
    let p = err_from_is_err_and c.from_residual.result c.from_residual.ensures.1 in
    rw (p.1, p.2) (pass_of_none_in_time _ _ _ c.args.name.now)

pub loop-invalid-init : goal.loop-invalid-init
loop-invalid-init g c = record {
  within = c.in_ok-reader.reader.within;
  ready = c.requires.ready;
  stands = subst (λ rows. Streaming c.args.vrps.now c.args.which (g.I.Inputs.content c.args.inputs.now c.args.name.now) c.args.state.now c.in_ok-reader.reader.reader c.args.state.now c.in_ok-reader.reader.at 0 rows) (sym (ap (map invalid_as) c.new-invalid.ensures.items)) (rw c.in_ok-reader.ensures.at (streaming_start _ _ _ _ _ c.in_ok-reader.ensures.nothing c.in_ok-reader.ensures.going c.in_ok-reader.ensures.stands));
  same = refl;
  kept = refl;
  made = rw c.in_ok-reader.ensures.at (pass_begins _ c.args.name.now);
  in_time = λ limits before s. time_begins _ _ (FeedMayGoOn limits.sizes c.args.vrps.now c.args.which before);
}

pub returns-in_err-read_events-clause-brings : goal.returns-in_err-read_events-clause-brings
unfolding feed_at
returns-in_err-read_events-clause-brings g c = λ limits before s.
    let p = err_from_is_err_and c.from_residual-in_err-read_events.result c.from_residual-in_err-read_events.ensures.1 in
    rw (p.1, p.2) (next_refused _ _ limits before _ _ c.loop-invalid.reader.reader _ _ c.loop-invalid.reader.at _ c.in_err-read_events.field-0.0 s c.loop-invalid.invariant.stands (rw c.loop-invalid.invariant.same at c.in_err-read_events.ensures.next))

pub returns-in_err-read_events-clause-reads : goal.returns-in_err-read_events-clause-reads
returns-in_err-read_events-clause-reads g c =
    let p = err_from_is_err_and c.from_residual-in_err-read_events.result c.from_residual-in_err-read_events.ensures.1 in
    rw (p.1, p.2, feeds_end_of_read c.in_err-read_events.field-0.0) (passes_on _ _ _ c.args.name.now c.loop-invalid.reader.at _ c.loop-invalid.invariant.made c.in_err-read_events.ensures.leads)

pub returns-in_err-read_events-clause-numbered : goal.returns-in_err-read_events-clause-numbered
returns-in_err-read_events-clause-numbered g c =
    let p = err_from_is_err_and c.from_residual-in_err-read_events.result c.from_residual-in_err-read_events.ensures.1 in
    rw (p.1, p.2) (read_numbered c.args.which c.in_err-read_events.field-0.0)

pub returns-in_err-read_events-clause-in_time : goal.returns-in_err-read_events-clause-in_time
returns-in_err-read_events-clause-in_time g c = λ limits before s. passes_in_time _ _ _ (FeedMayGoOn limits.sizes c.args.vrps.now c.args.which before) _ c.args.name.now (returns-in_err-read_events-clause-reads g c)
    (cuts_in_time _ _ _ _ (FeedMayGoOn limits.sizes c.args.vrps.now c.args.which before) c.loop-invalid.reader.at c.loop-invalid.reader.reader (next_may_go_on _ _ _ _ c.loop-invalid.reader.reader _ c.loop-invalid.reader.at _ limits before s c.loop-invalid.invariant.stands) (c.loop-invalid.invariant.in_time limits before s) (rw c.loop-invalid.invariant.same at c.in_err-read_events.ensures.cuts))

pub take_events-requires-clause-few : goal.take_events-requires-clause-few
take_events-requires-clause-few g c =
    let is = ap (map event_as) c.deref.ensures.value ∙ left_whole c.args.vrps.now c.read_events.new.events.items c.judge_all.new.events _ c.read_events.new.events.len c.in_ok-judge_all.ensures.left c.deref_mut.ensures.value (omega (arith, c.read_events.new.events.ok.0)) in
    next_fits _ _ _ _ c.loop-invalid.reader.reader _ _ c.loop-invalid.reader.at _ _ _ _ is c.requires.few c.in_ok-read_events.ensures.within c.loop-invalid.invariant.stands (rw (c.if-branch.true, c.loop-invalid.invariant.same) at c.in_ok-read_events.ensures.next)

pub returns-in_err-judge_all-clause-reads : goal.returns-in_err-judge_all-clause-reads
returns-in_err-judge_all-clause-reads g c =
    let p = err_from_is_err_and c.from_residual-in_err-judge_all.result c.from_residual-in_err-judge_all.ensures.1 in
    rw (p.1, p.2) (pass_stops _ _ c.args.name.now c.read_events.new.self.at c.in_ok-read_events.ensures.within (leads_on _ _ _ c.args.name.now c.loop-invalid.reader.at _ c.loop-invalid.invariant.made (rw c.if-branch.true at c.in_ok-read_events.ensures.leads)))

pub returns-in_err-judge_all-clause-in_time : goal.returns-in_err-judge_all-clause-in_time
returns-in_err-judge_all-clause-in_time g c = λ limits before s. passes_in_time _ _ _ (FeedMayGoOn limits.sizes c.args.vrps.now c.args.which before) _ c.args.name.now (returns-in_err-judge_all-clause-reads g c)
    (cuts_in_time _ _ _ _ (FeedMayGoOn limits.sizes c.args.vrps.now c.args.which before) c.loop-invalid.reader.at c.loop-invalid.reader.reader (next_may_go_on _ _ _ _ c.loop-invalid.reader.reader _ c.loop-invalid.reader.at _ limits before s c.loop-invalid.invariant.stands) (c.loop-invalid.invariant.in_time limits before s) (rw c.loop-invalid.invariant.same at c.in_ok-read_events.ensures.cuts))

pub returns-in_err-events-clause-brings : goal.returns-in_err-events-clause-brings
unfolding feed_at
returns-in_err-events-clause-brings g c = λ limits before s.
    let p = err_from_is_err_and c.from_residual-in_err-events.result c.from_residual-in_err-events.ensures.1 in
    let is = ap (map event_as) c.deref.ensures.value ∙ left_whole c.args.vrps.now c.read_events.new.events.items c.judge_all.new.events _ c.read_events.new.events.len c.in_ok-judge_all.ensures.left c.deref_mut.ensures.value (omega (arith, c.read_events.new.events.ok.0)) in
    rw (p.1, p.2) (next_event _ _ limits before _ _ c.loop-invalid.reader.reader _ _ _ c.loop-invalid.reader.at _ _ _ _ _ is s c.loop-invalid.invariant.stands (rw (c.if-branch.true, c.loop-invalid.invariant.same) at c.in_ok-read_events.ensures.next) c.in_err-events.ensures.takes)

pub returns-in_err-events-clause-reads : goal.returns-in_err-events-clause-reads
returns-in_err-events-clause-reads g c =
    let p = err_from_is_err_and c.from_residual-in_err-events.result c.from_residual-in_err-events.ensures.1 in
    rw (p.1, p.2, taken_end _ _ _ _ _ c.in_err-events.field-0.0 c.in_err-events.ensures.takes) (pass_stops _ _ c.args.name.now c.read_events.new.self.at c.in_ok-read_events.ensures.within (leads_on _ _ _ c.args.name.now c.loop-invalid.reader.at _ c.loop-invalid.invariant.made (rw c.if-branch.true at c.in_ok-read_events.ensures.leads)))

pub returns-in_err-events-clause-numbered : goal.returns-in_err-events-clause-numbered
returns-in_err-events-clause-numbered g c =
    let p = err_from_is_err_and c.from_residual-in_err-events.result c.from_residual-in_err-events.ensures.1 in
    rw (p.1, p.2) c.in_err-events.ensures.numbered

pub returns-in_err-events-clause-in_time : goal.returns-in_err-events-clause-in_time
returns-in_err-events-clause-in_time g c = λ limits before s. passes_in_time _ _ _ (FeedMayGoOn limits.sizes c.args.vrps.now c.args.which before) _ c.args.name.now (returns-in_err-events-clause-reads g c)
    (cuts_in_time _ _ _ _ (FeedMayGoOn limits.sizes c.args.vrps.now c.args.which before) c.loop-invalid.reader.at c.loop-invalid.reader.reader (next_may_go_on _ _ _ _ c.loop-invalid.reader.reader _ c.loop-invalid.reader.at _ limits before s c.loop-invalid.invariant.stands) (c.loop-invalid.invariant.in_time limits before s) (rw c.loop-invalid.invariant.same at c.in_ok-read_events.ensures.cuts))

pub loop-invalid-preserved : goal.loop-invalid-preserved
loop-invalid-preserved g c =
    let is = ap (map event_as) c.deref.ensures.value ∙ left_whole c.args.vrps.now c.read_events.new.events.items c.judge_all.new.events _ c.read_events.new.events.len c.in_ok-judge_all.ensures.left c.deref_mut.ensures.value (omega (arith, c.read_events.new.events.ok.0)) in
    record {
      within = c.in_ok-read_events.ensures.within;
      ready = c.in_ok-events.ensures.ready;
      stands = next_takes _ _ _ _ c.loop-invalid.reader.reader _ _ _ c.loop-invalid.reader.at _ _ _ _ _ is (c.in_ok-judge_all.ensures.invalid ∙ ap (λ es. map invalid_as c.loop-invalid.invalid.items ++ invalid_in c.args.vrps.now (map event_as es)) c.deref_mut.ensures.value) c.loop-invalid.invariant.stands (rw (c.if-branch.true, c.loop-invalid.invariant.same) at c.in_ok-read_events.ensures.next) c.in_ok-events.ensures.counts (λ limits before done counted stands. c.in_ok-events.ensures.takes limits before done counted stands);
      same = c.in_ok-read_events.ensures.same ∙ c.loop-invalid.invariant.same;
      kept = c.in_ok-read_events.ensures.cause ∙ c.loop-invalid.invariant.kept;
      made = leads_on _ _ _ c.args.name.now c.loop-invalid.reader.at _ c.loop-invalid.invariant.made (rw c.if-branch.true at c.in_ok-read_events.ensures.leads);
      in_time = λ limits before s. cuts_in_time _ _ _ _ (FeedMayGoOn limits.sizes c.args.vrps.now c.args.which before) c.loop-invalid.reader.at c.loop-invalid.reader.reader (next_may_go_on _ _ _ _ c.loop-invalid.reader.reader _ c.loop-invalid.reader.at _ limits before s c.loop-invalid.invariant.stands) (c.loop-invalid.invariant.in_time limits before s) (rw c.loop-invalid.invariant.same at c.in_ok-read_events.ensures.cuts);
    }

pub returns-clause-brings : goal.returns-clause-brings
unfolding feed_at
returns-clause-brings g c = λ limits before s.
    let e = rw (c.if-branch.false, c.loop-invalid.invariant.same) at c.in_ok-read_events.ensures.next in
    brings_all _ _ _ limits before _ _ c.read_events.new.self.reader _ c.read_events.new.self.at _ _ _ _ e.1 s (streaming_fed _ _ _ _ c.loop-invalid.reader.reader _ _ c.loop-invalid.reader.at _ _ e.0 c.loop-invalid.invariant.stands) e.2 c.records.ensures c.skipped.ensures c.treated.ensures

pub returns-clause-few : goal.returns-clause-few
returns-clause-few g c =
    let e = rw (c.if-branch.false, c.loop-invalid.invariant.same) at c.in_ok-read_events.ensures.next in
    few_all _ c.args.vrps.now c.args.which (g.I.Inputs.content c.args.inputs.now c.args.name.now) c.args.state.now c.read_events.new.self.reader c.loop-invalid.state c.read_events.new.self.at _ _ _ _ c.in_ok-read_events.ensures.within (streaming_fed _ _ _ _ c.loop-invalid.reader.reader _ _ c.loop-invalid.reader.at _ _ e.0 c.loop-invalid.invariant.stands) e.2 c.records.ensures c.skipped.ensures c.treated.ensures

pub returns-clause-reads : goal.returns-clause-reads
returns-clause-reads g c = passes_on _ _ _ c.args.name.now c.loop-invalid.reader.at _ c.loop-invalid.invariant.made (rw c.if-branch.false at c.in_ok-read_events.ensures.leads)

pub returns-clause-in_time : goal.returns-clause-in_time
returns-clause-in_time g c = λ limits before s. passes_in_time _ _ _ (FeedMayGoOn limits.sizes c.args.vrps.now c.args.which before) _ c.args.name.now (returns-clause-reads g c)
    (cuts_in_time _ _ _ _ (FeedMayGoOn limits.sizes c.args.vrps.now c.args.which before) c.loop-invalid.reader.at c.loop-invalid.reader.reader (next_may_go_on _ _ _ _ c.loop-invalid.reader.reader _ c.loop-invalid.reader.at _ limits before s c.loop-invalid.invariant.stands) (c.loop-invalid.invariant.in_time limits before s) (rw c.loop-invalid.invariant.same at c.in_ok-read_events.ensures.cuts))
