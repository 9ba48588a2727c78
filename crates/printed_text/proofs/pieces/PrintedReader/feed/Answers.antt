use Rattle.std.proofs.Common.{◌++◌, ◌∙◌, Err, ap, arith}
use Rattle.std.proofs.lemmas.Result.{err_from_is_err_and}
use Rattle.printed_text.proofs.Feeds.{counts_lines, feed_fails, reads_lines}
use Rattle.printed_text.proofs.pieces.PrintedReader.feed.Goals as goal

pub returns-in_err-lines-clause-stands : goal.returns-in_err-lines-clause-stands
returns-in_err-lines-clause-stands c =
    let p = err_from_is_err_and c.from_residual-in_err-lines.result c.from_residual-in_err-lines.ensures.1 in
    let text = c.deref.ensures.value ∙ c.in_ok-extend_from_slice-2.ensures.items ∙ ap (λ z. c.args.self.held.items ++ z) c.split_at.ensures.front in
    λ fed s. feed_fails fed c.args.piece.now c.deref.result.now c.in-Some.last c.args.self c.take_lines.new.self c.in_err-lines.field-0.0 _ c.in-Some.ensures.0.high c.in-Some.ensures.1 text c.in_err-lines.ensures.taken (p.1 ∙ ap Err p.2) s

pub returns-clause-stands : goal.returns-clause-stands
returns-clause-stands c =
    let text = c.deref.ensures.value ∙ c.in_ok-extend_from_slice-2.ensures.items ∙ ap (λ z. c.args.self.held.items ++ z) c.split_at.ensures.front in
    let rest = c.in_ok-extend_from_slice-3.ensures.items ∙ ap (λ z. z ++ c.split_at.result.1.now) c.clear.ensures.items ∙ c.split_at.ensures.back in
    λ fed s. reads_lines fed c.args.piece.now c.deref.result.now c.in-Some.last c.args.self _ c.in-Some.ensures.0.high c.in-Some.ensures.1 text rest c.in_ok-lines.ensures.taken s

pub returns-clause-counts : goal.returns-clause-counts
returns-clause-counts c =
    let text = c.deref.ensures.value ∙ c.in_ok-extend_from_slice-2.ensures.items ∙ ap (λ z. c.args.self.held.items ++ z) c.split_at.ensures.front in
    let rest = c.in_ok-extend_from_slice-3.ensures.items ∙ ap (λ z. z ++ c.split_at.result.1.now) c.clear.ensures.items ∙ c.split_at.ensures.back in
    counts_lines c.args.self.lines c.in_ok-lines.lines c.in-Some.last c.args.self.held.items c.args.piece.now c.deref.result.now _ text rest c.in_ok-lines.ensures.counted

pub invariant_of-result-2 : goal.invariant_of-result-2
invariant_of-result-2 c =
    let text = c.deref.ensures.value ∙ c.in_ok-extend_from_slice-2.ensures.items ∙ ap (λ z. c.args.self.held.items ++ z) c.split_at.ensures.front in
    let rest = c.in_ok-extend_from_slice-3.ensures.items ∙ ap (λ z. z ++ c.split_at.result.1.now) c.clear.ensures.items ∙ c.split_at.ensures.back in
    let most = counts_lines c.args.self.lines c.in_ok-lines.lines c.in-Some.last c.args.self.held.items c.args.piece.now c.deref.result.now _ text rest c.in_ok-lines.ensures.counted in
    record {
      few = c.in_ok-lines.ensures.few;
      counted = omega (arith, most, c.requires);
    }
