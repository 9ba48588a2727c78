use Rattle.std.proofs.Common.{◌+◌, ◌∙◌, Err, Ok, ap, arith, refl}
use Rattle.std.proofs.lemmas.Grind.{common_steps}
use Rattle.std.proofs.lemmas.Result.{err_from_is_err_and}
use Rattle.fib_io.specs.Pieces.{ComeNext, IsEnd, IsLarge}
use Rattle.fib_io.proofs.Passing.{pass_begins, pass_ends, pass_goes_on, pass_refused, pass_stops}
use Rattle.fib_io.proofs.Timing.{passes_in_time, time_begins, time_goes_on}
use Rattle.mrt_read.proofs.Arriving.{told_before}
use Rattle.fib_due.specs.InTime.{AsksMayGoOn}
use Rattle.fib_run.proofs.AskReading.{asking_feeds, asking_on, asking_start, brings_all, cause_of_end, cause_of_feed, feed_fits, finish_fits, reads_of_end, reads_of_feed, refused_feed, refused_piece}
use Rattle.fib_run.proofs.FeedPasses.{asks_end_of_input}
use Rattle.fib_run.proofs.asks.read_through.Goals as goal

pub loop-reader-init : goal.loop-reader-init
loop-reader-init g c = record {
  some = c.requires;
  within = omega arith;
  stands = asking_start _ _ c.new-reader.ensures;
  same = refl;
  kept = refl;
  made = pass_begins _ c.args.name.now;
  in_time = time_begins _ _ AsksMayGoOn;
}

pub returns-in_err-n-clause-brings : goal.returns-in_err-n-clause-brings
returns-in_err-n-clause-brings g c =
    let p = err_from_is_err_and c.from_residual.result c.from_residual.ensures.1 in
    rw (p.1, p.2) (refused_piece _ _ c.loop-reader.at _ (λ e. told_before _ _ c.args.name.now (λ o. IsLarge o c.loop-reader.at) c.loop-reader.invariant.same (c.in_err-n.ensures.large e)) c.loop-reader.invariant.stands)

pub finish-requires : goal.finish-requires
finish-requires g c = finish_fits _ _ c.loop-reader.at c.loop-reader.invariant.within c.loop-reader.invariant.stands

pub returns-then-n-eq0-clause-brings : goal.returns-then-n-eq0-clause-brings
returns-then-n-eq0-clause-brings g c = brings_all _ _ c.loop-reader.at _ (told_before _ _ c.args.name.now (λ o. IsEnd o c.loop-reader.at) c.loop-reader.invariant.same (c.in_ok-n.ensures.end c.if-n-eq0.true)) c.loop-reader.invariant.stands c.finish.ensures

pub returns-then-n-eq0-clause-cause : goal.returns-then-n-eq0-clause-cause
returns-then-n-eq0-clause-cause g c = cause_of_end _ _ c.args.name.now _ _ c.loop-reader.at _ (c.in_ok-n.ensures.cause ∙ c.loop-reader.invariant.kept) c.loop-reader.invariant.stands c.finish.ensures

pub feed-requires : goal.feed-requires
feed-requires g c = feed_fits _ _ c.read_piece.new.room c.loop-reader.at c.in_ok-n.n c.in_ok-n.ensures.within c.in_ok-n.ensures.most c.loop-reader.invariant.stands

pub returns-in_err-feed-clause-brings : goal.returns-in_err-feed-clause-brings
returns-in_err-feed-clause-brings g c =
    let p = err_from_is_err_and c.from_residual-in_err-feed.result c.from_residual-in_err-feed.ensures.1 in
    let next = told_before _ _ c.args.name.now (λ o. ComeNext o c.loop-reader.at c.read_piece.new.room c.in_ok-n.n) c.loop-reader.invariant.same c.in_ok-n.ensures.comes in
    rw (p.1, p.2) (refused_feed _ _ _ c.read_piece.new.room c.loop-reader.at c.in_ok-n.n _ next c.loop-reader.invariant.stands c.in_err-feed.ensures)

pub returns-in_err-feed-clause-cause : goal.returns-in_err-feed-clause-cause
returns-in_err-feed-clause-cause g c =
    let p = err_from_is_err_and c.from_residual-in_err-feed.result c.from_residual-in_err-feed.ensures.1 in
    cause_of_feed _ _ c.args.name.now _ _ _ c.read_piece.new.room c.loop-reader.at c.in_ok-n.n _ _ (p.1 ∙ ap Err p.2) (c.in_ok-n.ensures.cause ∙ c.loop-reader.invariant.kept) c.loop-reader.invariant.stands c.in_err-feed.ensures

pub loop-reader-preserved : goal.loop-reader-preserved
loop-reader-preserved g c =
    let next = told_before _ _ c.args.name.now (λ o. ComeNext o c.loop-reader.at c.read_piece.new.room c.in_ok-n.n) c.loop-reader.invariant.same c.in_ok-n.ensures.comes in
    record {
      some = c.in_ok-n.ensures.some;
      within = c.in_ok-n.ensures.within;
      stands = asking_feeds _ _ _ c.read_piece.new.room c.loop-reader.at c.in_ok-n.n c.in_ok-n.ensures.most next c.loop-reader.invariant.stands c.in_ok-feed.ensures;
      same = c.in_ok-n.ensures.same ∙ c.loop-reader.invariant.same;
      kept = c.in_ok-n.ensures.cause ∙ c.loop-reader.invariant.kept;
      made = pass_goes_on _ _ _ c.args.name.now c.loop-reader.at c.loop-reader.at _ c.in_ok-n.n refl refl (grind (arith, common_steps)) c.loop-reader.invariant.made c.in_ok-n.ensures.made;
      in_time = time_goes_on _ _ _ _ AsksMayGoOn c.args.name.now c.loop-reader.at (Ok c.in_ok-n.n) (asking_on _ _ c.loop-reader.at c.loop-reader.invariant.within c.loop-reader.invariant.stands) c.loop-reader.invariant.in_time c.in_ok-n.ensures.made;
    }

pub returns-in_err-n-clause-reads : goal.returns-in_err-n-clause-reads
returns-in_err-n-clause-reads g c =
    let p = err_from_is_err_and c.from_residual.result c.from_residual.ensures.1 in
    rw (p.1, p.2, asks_end_of_input c.in_err-n.field-0.0) (passes_in_time _ _ _ AsksMayGoOn _ c.args.name.now
    (pass_refused _ _ _ c.args.name.now c.loop-reader.at c.loop-reader.at c.in_err-n.field-0.0 refl c.loop-reader.invariant.within c.loop-reader.invariant.made c.in_err-n.ensures.made)
    (time_goes_on _ _ _ _ AsksMayGoOn c.args.name.now c.loop-reader.at (Err c.in_err-n.field-0.0) (asking_on _ _ c.loop-reader.at c.loop-reader.invariant.within c.loop-reader.invariant.stands) c.loop-reader.invariant.in_time c.in_err-n.ensures.made))

pub returns-then-n-eq0-clause-reads : goal.returns-then-n-eq0-clause-reads
returns-then-n-eq0-clause-reads g c =
    passes_in_time _ _ _ AsksMayGoOn _ c.args.name.now
    (reads_of_end _ _ c.args.name.now _ _ _ _ c.loop-reader.invariant.stands c.finish.ensures
    (pass_ends _ _ _ c.args.name.now c.loop-reader.at c.loop-reader.at c.in_ok-n.n refl c.loop-reader.invariant.within c.if-n-eq0.true c.loop-reader.invariant.made c.in_ok-n.ensures.made))
    (time_goes_on _ _ _ _ AsksMayGoOn c.args.name.now c.loop-reader.at (Ok c.in_ok-n.n) (asking_on _ _ c.loop-reader.at c.loop-reader.invariant.within c.loop-reader.invariant.stands) c.loop-reader.invariant.in_time c.in_ok-n.ensures.made)

pub returns-in_err-feed-clause-reads : goal.returns-in_err-feed-clause-reads
returns-in_err-feed-clause-reads g c =
    let p = err_from_is_err_and c.from_residual-in_err-feed.result c.from_residual-in_err-feed.ensures.1 in
    rw (p.1, p.2) (passes_in_time _ _ _ AsksMayGoOn _ c.args.name.now
    (reads_of_feed _ _ c.args.name.now _ _ _ c.read_piece.new.room c.loop-reader.at c.in_ok-n.n c.in_err-feed.field-0.0 c.loop-reader.invariant.stands c.in_err-feed.ensures
    (pass_stops _ _ c.args.name.now (c.loop-reader.at + c.in_ok-n.n) c.in_ok-n.ensures.within
    (pass_goes_on _ _ _ c.args.name.now c.loop-reader.at c.loop-reader.at (c.loop-reader.at + c.in_ok-n.n) c.in_ok-n.n refl refl (grind (arith, common_steps)) c.loop-reader.invariant.made c.in_ok-n.ensures.made)))
    (time_goes_on _ _ _ _ AsksMayGoOn c.args.name.now c.loop-reader.at (Ok c.in_ok-n.n) (asking_on _ _ c.loop-reader.at c.loop-reader.invariant.within c.loop-reader.invariant.stands) c.loop-reader.invariant.in_time c.in_ok-n.ensures.made))
