use Rattle.std.proofs.Common.{◌+◌, ◌∙◌, arith, refl}
use Rattle.std.proofs.lemmas.Grind.{common_steps}
use Rattle.std.proofs.lemmas.List.{length-take}
use Rattle.std.proofs.lemmas.Result.{err_from_is_err_and}
use Rattle.fib_io.specs.Pieces.{ComeNext, IsEnd, IsLarge}
use Rattle.fib_io.proofs.Coming.{told_before}
use Rattle.fib_io.proofs.Passing.{pass_begins, pass_ends, pass_goes_on, pass_refused, pass_stops}
use Rattle.fib_texts.proofs.Reading.{counts_more, ended_cause, ended_pass, fed_more, fed_none, large_text, not_large, text_read, text_small}
use Rattle.fib_texts.proofs.read.read_through.Goals as goal

pub loop-reader-init : goal.loop-reader-init
loop-reader-init g c = record {
  some = c.requires;
  within = omega arith;
  counts = omega (arith, c.new-reader.ensures.none);
  fed = fed_none _ c.new-reader.result c.new-reader.ensures.stands;
  same = refl;
  kept = refl;
  made = pass_begins _ c.args.name.now;
}

pub feed-requires : goal.feed-requires
feed-requires g c = omega (arith, c.loop-reader.invariant.counts, c.in_ok-n.ensures.within, c.in_ok-n.ensures.most, length-take c.in_ok-n.n c.read_piece.new.room)

pub loop-reader-preserved : goal.loop-reader-preserved
loop-reader-preserved g c = record {
  some = c.in_ok-n.ensures.some;
  within = c.in_ok-n.ensures.within;
  counts = counts_more _ _ c.read_piece.new.room c.loop-reader.at c.in_ok-n.n c.in_ok-n.ensures.most c.in_ok-reader.ensures.counts c.loop-reader.invariant.counts;
  fed = fed_more _ _ _ c.read_piece.new.room c.loop-reader.at c.in_ok-n.n c.in_ok-n.ensures.most (told_before _ _ c.args.name.now (λ o. ComeNext o c.loop-reader.at c.read_piece.new.room c.in_ok-n.n) c.loop-reader.invariant.same c.in_ok-n.ensures.comes) c.in_ok-reader.ensures.stands c.loop-reader.invariant.fed;
  same = c.in_ok-n.ensures.same ∙ c.loop-reader.invariant.same;
  kept = c.in_ok-n.ensures.cause ∙ c.loop-reader.invariant.kept;
  made = pass_goes_on _ _ _ c.args.name.now c.loop-reader.at c.loop-reader.at _ c.in_ok-n.n refl refl (grind (arith, common_steps)) c.loop-reader.invariant.made c.in_ok-n.ensures.made;
}

pub returns-in_err-n-clause-large : goal.returns-in_err-n-clause-large
returns-in_err-n-clause-large g c =
    let p = err_from_is_err_and c.from_residual.result c.from_residual.ensures.1 in
    rw (p.1, p.2) (large_text _ c.loop-reader.at c.in_err-n.field-0.0 (λ e. told_before _ _ c.args.name.now (λ o. IsLarge o c.loop-reader.at) c.loop-reader.invariant.same (c.in_err-n.ensures.large e)))

pub returns-in_err-n-clause-made : goal.returns-in_err-n-clause-made
returns-in_err-n-clause-made g c =
    let p = err_from_is_err_and c.from_residual.result c.from_residual.ensures.1 in
    rw (p.1, p.2) (pass_refused _ _ _ c.args.name.now c.loop-reader.at c.loop-reader.at c.in_err-n.field-0.0 refl c.loop-reader.invariant.within c.loop-reader.invariant.made c.in_err-n.ensures.made)

pub returns-then-n-eq0-clause-text : goal.returns-then-n-eq0-clause-text
returns-then-n-eq0-clause-text g c = text_read _ c.loop-reader.reader c.loop-reader.at c.finish.result (told_before _ _ c.args.name.now (λ o. IsEnd o c.loop-reader.at) c.loop-reader.invariant.same (c.in_ok-n.ensures.end c.if-n-eq0.true)) c.finish.ensures.text c.loop-reader.invariant.fed

pub returns-then-n-eq0-clause-most : goal.returns-then-n-eq0-clause-most
returns-then-n-eq0-clause-most g c = text_small _ c.loop-reader.at c.finish.result (told_before _ _ c.args.name.now (λ o. IsEnd o c.loop-reader.at) c.loop-reader.invariant.same (c.in_ok-n.ensures.end c.if-n-eq0.true))

pub returns-then-n-eq0-clause-large : goal.returns-then-n-eq0-clause-large
returns-then-n-eq0-clause-large g c = λ large. absurd (not_large c.finish.result c.finish.ensures.none large)

pub returns-then-n-eq0-clause-cause : goal.returns-then-n-eq0-clause-cause
returns-then-n-eq0-clause-cause g c = ended_cause _ _ c.args.name.now c.finish.result c.finish.ensures.none (c.in_ok-n.ensures.cause ∙ c.loop-reader.invariant.kept)

pub returns-then-n-eq0-clause-made : goal.returns-then-n-eq0-clause-made
returns-then-n-eq0-clause-made g c =
    ended_pass _ _ c.args.name.now c.finish.result c.finish.ensures.none
    (pass_ends _ _ _ c.args.name.now c.loop-reader.at c.loop-reader.at c.in_ok-n.n refl c.loop-reader.invariant.within c.if-n-eq0.true c.loop-reader.invariant.made c.in_ok-n.ensures.made)

pub returns-in_err-reader-clause-made : goal.returns-in_err-reader-clause-made
returns-in_err-reader-clause-made g c =
    let p = err_from_is_err_and c.from_residual-in_err-reader.result c.from_residual-in_err-reader.ensures.1 in
    rw (p.1, p.2) (pass_stops _ _ c.args.name.now (c.loop-reader.at + c.in_ok-n.n) c.in_ok-n.ensures.within
    (pass_goes_on _ _ _ c.args.name.now c.loop-reader.at c.loop-reader.at (c.loop-reader.at + c.in_ok-n.n) c.in_ok-n.n refl refl (grind (arith, common_steps)) c.loop-reader.invariant.made c.in_ok-n.ensures.made))
