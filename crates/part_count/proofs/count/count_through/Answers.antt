use Rattle.std.proofs.Common.{◌≡◌, ◌∙◌, ◌+◌, ◌-◌, ◌^◌, arith, length, map, refl, rules}
use Rattle.std.specs.Prelude.{min}
use Rattle.std.proofs.lemmas.List.{length-map}
use Rattle.std.proofs.lemmas.Result.{err_from_is_err_and}
use Rattle.fib_prefix.specs.Views.{event_as}
use Rattle.mrt_read.proofs.Fed.{fed_at_start, fed_more, fed_takes}
use Rattle.fib_io.specs.Pieces.{ComeNext, IsEnd, IsLarge}
use Rattle.mrt_read.proofs.Arriving.{told_before}
use Rattle.part_count.proofs.Counting.{counted_all, counting_feeds, counting_start, counting_takes, refused_end, refused_piece, refused_read, used_at_start}
use Rattle.part_count.proofs.count.count_through.Goals as goal

pub loop-more-init : goal.loop-more-init
loop-more-init g c = record {
  some = c.requires;
  within = omega arith;
  fed = fed_at_start c.new-reader.result c.new-reader.ensures.nothing c.new-reader.ensures.stands;
  stands = counting_start _ _ c.new-reader.ensures.stands;
  used = used_at_start c.new-reader.result c.new-reader.ensures.nothing c.new-reader.ensures.going;
  same = refl;
  kept = refl;
}

pub returns-in_err-n-clause-refused : goal.returns-in_err-n-clause-refused
returns-in_err-n-clause-refused g c =
    let p = err_from_is_err_and c.from_residual.result c.from_residual.ensures.1 in
    rw (p.1, p.2) (refused_piece _ c.loop-more.at _ (λ e. told_before _ _ c.args.name.now (λ o. IsLarge o c.loop-more.at) c.loop-more.invariant.same (c.in_err-n.ensures.large e)))

pub returns-in_err-finish-clause-refused : goal.returns-in_err-finish-clause-refused
returns-in_err-finish-clause-refused g c =
    let p = err_from_is_err_and c.from_residual-in_err-finish.result c.from_residual-in_err-finish.ensures.1 in
    rw (p.1, p.2) (refused_end _ _ c.loop-more.at _ _ (told_before _ _ c.args.name.now (λ o. IsEnd o c.loop-more.at) c.loop-more.invariant.same (c.in_ok-n.ensures.end c.if-n-eq0.true)) c.loop-more.invariant.stands c.in_err-finish.ensures.tells)

pub returns-then-n-eq0-clause-counts : goal.returns-then-n-eq0-clause-counts
returns-then-n-eq0-clause-counts g c = counted_all _ _ c.loop-more.at _ _ _ _ (told_before _ _ c.args.name.now (λ o. IsEnd o c.loop-more.at) c.loop-more.invariant.same (c.in_ok-n.ensures.end c.if-n-eq0.true)) c.loop-more.invariant.stands c.in_ok-finish.ensures.tells c.records.ensures c.skipped.ensures c.treated.ensures

pub loop-more-2-init : goal.loop-more-2-init
loop-more-2-init g c = record {
  some = c.in_ok-n.ensures.some;
  within = c.in_ok-n.ensures.within;
  fed = fed_more _ _ _ _ _ c.loop-more.invariant.fed c.in_ok-feed.ensures.ok (search rules);
  stands = counting_feeds _ _ _ c.read_piece.new.room _ c.in_ok-n.n _ (told_before _ _ c.args.name.now (λ o. ComeNext o c.loop-more.at c.read_piece.new.room c.in_ok-n.n) c.loop-more.invariant.same c.in_ok-n.ensures.comes) c.loop-more.invariant.stands c.in_ok-feed.ensures.ok;
  same = c.in_ok-n.ensures.same ∙ c.loop-more.invariant.same;
  kept = c.in_ok-n.ensures.cause ∙ c.loop-more.invariant.kept;
}

pub returns-in_err-read_events-clause-refused : goal.returns-in_err-read_events-clause-refused
returns-in_err-read_events-clause-refused g c =
    let p = err_from_is_err_and c.from_residual-in_err-read_events.result c.from_residual-in_err-read_events.ensures.1 in
    rw (p.1, p.2) (refused_read _ _ _ (c.loop-more.at + c.in_ok-n.n) _ (map event_as c.read_events.new.events.items) _ c.loop-more-2.invariant.stands c.in_err-read_events.ensures.after)

pub loop-more-2-preserved : goal.loop-more-2-preserved
loop-more-2-preserved g c =
    let took = rw c.if-branch.true at c.in_ok-read_events.ensures.after in
    let all : c.len.result ≡ length c.read_events.new.events.items = search rules in
    let more : c.saturating_add-events.result ≡ min (c.loop-more-2.events + length (map event_as c.read_events.new.events.items)) (2 ^ 64 - 1) = omega (arith, c.saturating_add-events.ensures, all, length-map c.read_events.new.events.items event_as) in
    record {
      some = c.loop-more-2.invariant.some;
      within = c.loop-more-2.invariant.within;
      fed = fed_takes _ _ _ _ c.loop-more-2.invariant.fed took;
      stands = counting_takes _ _ _ _ _ _ _ more c.loop-more-2.invariant.stands took;
      same = c.loop-more-2.invariant.same;
      kept = c.loop-more-2.invariant.kept;
    }
