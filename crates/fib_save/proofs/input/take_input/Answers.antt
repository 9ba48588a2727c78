use Rattle.std.proofs.Common.{◌∙◌, refl}
use Rattle.std.proofs.lemmas.Result.{err_from_is_err_and}
use Rattle.fib_io.proofs.Passing.{pass_begins, pass_stops}
use Rattle.fib_io.proofs.Timing.{pass_of_none_in_time, passes_in_time, time_begins}
use Rattle.mrt_read.specs.Whole.{MayGoOn}
use Rattle.mrt_read.proofs.Gathering.{next_may_go_on, next_refused}
use Rattle.fib_save.proofs.Taking.{takes_all, taking_next, taking_start}
use Rattle.mrt_read.proofs.Nexts.{cuts_in_time, leads_on, passes_on}
use Rattle.fib_save.proofs.input.take_input.Goals as goal

pub returns-in_err-reader-clause-reads : goal.returns-in_err-reader-clause-reads
returns-in_err-reader-clause-reads g c =
    let p = err_from_is_err_and c.from_residual.result c.from_residual.ensures.1 in
    rw (p.1, p.2) (pass_of_none_in_time _ _ _ c.args.name.now)

pub loop-more-init : goal.loop-more-init
loop-more-init g c = record {
  within = c.in_ok-reader.reader.within;
  stands = rw c.in_ok-reader.ensures.at (taking_start _ _ _ c.in_ok-reader.ensures.nothing c.in_ok-reader.ensures.going c.in_ok-reader.ensures.stands);
  same = refl;
  kept = refl;
  made = rw c.in_ok-reader.ensures.at (pass_begins _ c.args.name.now);
  in_time = time_begins _ _ MayGoOn;
}

pub returns-in_err-read_events-clause-refused : goal.returns-in_err-read_events-clause-refused
returns-in_err-read_events-clause-refused g c =
    let p = err_from_is_err_and c.from_residual-in_err-read_events.result c.from_residual-in_err-read_events.ensures.1 in
    rw (p.1, p.2) (next_refused _ c.loop-more.reader.reader _ c.loop-more.reader.at _ c.in_err-read_events.field-0.0 (rw c.loop-more.invariant.same at c.in_err-read_events.ensures.next) c.loop-more.invariant.stands.gathered)

pub returns-in_err-read_events-clause-reads : goal.returns-in_err-read_events-clause-reads
returns-in_err-read_events-clause-reads g c =
    let p = err_from_is_err_and c.from_residual-in_err-read_events.result c.from_residual-in_err-read_events.ensures.1 in
    rw (p.1, p.2) (passes_in_time _ _ _ MayGoOn _ c.args.name.now
    (passes_on _ _ _ c.args.name.now c.loop-more.reader.at _ c.loop-more.invariant.made c.in_err-read_events.ensures.leads)
    (cuts_in_time _ _ _ _ MayGoOn c.loop-more.reader.at c.loop-more.reader.reader (next_may_go_on _ c.loop-more.reader.reader c.loop-more.reader.at _ c.loop-more.invariant.stands.gathered) c.loop-more.invariant.in_time (rw c.loop-more.invariant.same at c.in_err-read_events.ensures.cuts)))

pub loop-more-preserved : goal.loop-more-preserved
loop-more-preserved g c = record {
  within = c.in_ok-read_events.ensures.within;
  stands = taking_next _ _ _ _ c.loop-more.reader.reader _ c.loop-more.reader.at _ c.read_events.new.events.items (rw (c.if-branch.true, c.loop-more.invariant.same) at c.in_ok-read_events.ensures.next) (rw c.deref.ensures.value at c.in_ok-take_events.ensures) c.loop-more.invariant.stands;
  same = c.in_ok-read_events.ensures.same ∙ c.loop-more.invariant.same;
  kept = c.in_ok-read_events.ensures.cause ∙ c.loop-more.invariant.kept;
  made = leads_on _ _ _ c.args.name.now c.loop-more.reader.at _ c.loop-more.invariant.made (rw c.if-branch.true at c.in_ok-read_events.ensures.leads);
  in_time = cuts_in_time _ _ _ _ MayGoOn c.loop-more.reader.at c.loop-more.reader.reader (next_may_go_on _ c.loop-more.reader.reader c.loop-more.reader.at _ c.loop-more.invariant.stands.gathered) c.loop-more.invariant.in_time (rw c.loop-more.invariant.same at c.in_ok-read_events.ensures.cuts);
}

pub returns-in_err-take_events-clause-reads : goal.returns-in_err-take_events-clause-reads
returns-in_err-take_events-clause-reads g c =
    let p = err_from_is_err_and c.from_residual-in_err-take_events.result c.from_residual-in_err-take_events.ensures.1 in
    rw (p.1, p.2) (passes_in_time _ _ _ MayGoOn _ c.args.name.now
    (pass_stops _ _ c.args.name.now c.read_events.new.self.at c.in_ok-read_events.ensures.within (leads_on _ _ _ c.args.name.now c.loop-more.reader.at _ c.loop-more.invariant.made (rw c.if-branch.true at c.in_ok-read_events.ensures.leads)))
    (cuts_in_time _ _ _ _ MayGoOn c.loop-more.reader.at c.loop-more.reader.reader (next_may_go_on _ c.loop-more.reader.reader c.loop-more.reader.at _ c.loop-more.invariant.stands.gathered) c.loop-more.invariant.in_time (rw c.loop-more.invariant.same at c.in_ok-read_events.ensures.cuts)))

pub returns-clause-takes : goal.returns-clause-takes
returns-clause-takes g c = takes_all _ _ _ c.loop-more.reader.reader _ c.loop-more.reader.at _ (rw (c.if-branch.false, c.loop-more.invariant.same) at c.in_ok-read_events.ensures.next) c.loop-more.invariant.stands

pub returns-clause-reads : goal.returns-clause-reads
returns-clause-reads g c = passes_in_time _ _ _ MayGoOn _ c.args.name.now
    (passes_on _ _ _ c.args.name.now c.loop-more.reader.at _ c.loop-more.invariant.made (rw c.if-branch.false at c.in_ok-read_events.ensures.leads))
    (cuts_in_time _ _ _ _ MayGoOn c.loop-more.reader.at c.loop-more.reader.reader (next_may_go_on _ c.loop-more.reader.reader c.loop-more.reader.at _ c.loop-more.invariant.stands.gathered) c.loop-more.invariant.in_time (rw c.loop-more.invariant.same at c.in_ok-read_events.ensures.cuts))
