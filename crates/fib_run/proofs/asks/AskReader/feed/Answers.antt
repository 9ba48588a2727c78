use Rattle.std.proofs.Common.{◌++◌, ◌∙◌, Err, ap, refl}
use Rattle.std.proofs.lemmas.Result.{err_from_is_err_and}
use Rattle.fib_run.proofs.AskReading.{HasFeed, holds_more, reads_fail, reads_lines}
use Rattle.fib_run.proofs.asks.AskReader.feed.Goals as goal

pub returns-in_default : goal.returns-in_default
returns-in_default c = λ fed s. holds_more fed _ _ _ refl refl c.in_ok-extend_from_slice.ensures.items c.in_default.ensures s

pub returns-in_err-read_lines : goal.returns-in_err-read_lines
returns-in_err-read_lines c =
    let p = err_from_is_err_and c.from_residual-in_err-read_lines.result c.from_residual-in_err-read_lines.ensures.1 in
    let f : HasFeed c.args.piece.now c.in-Some.last = record { after = c.in-Some.ensures.0; here = c.in-Some.ensures.1 } in
    let text = c.deref.ensures.value ∙ c.in_ok-extend_from_slice-2.ensures.items ∙ ap (λ z. c.args.self.now.held.items ++ z) c.split_at.ensures.front in
    λ fed s. reads_fail fed _ _ _ _ _ _ _ _ _ f text c.in_err-read_lines.ensures (p.1 ∙ ap Err p.2) s

pub returns : goal.returns
returns c =
    let f : HasFeed c.args.piece.now c.in-Some.last = record { after = c.in-Some.ensures.0; here = c.in-Some.ensures.1 } in
    let text = c.deref.ensures.value ∙ c.in_ok-extend_from_slice-2.ensures.items ∙ ap (λ z. c.args.self.now.held.items ++ z) c.split_at.ensures.front in
    let rest = c.in_ok-extend_from_slice-3.ensures.items ∙ ap (λ z. z ++ c.split_at.result.1.now) c.clear.ensures.items ∙ c.split_at.ensures.back in
    λ fed s. reads_lines fed _ _ _ _ _ f text rest c.in_ok-read_lines.ensures s
