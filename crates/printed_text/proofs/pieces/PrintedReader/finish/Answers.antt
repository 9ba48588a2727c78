use Rattle.std.proofs.Common.{◌∙◌, Err, ap}
use Rattle.std.proofs.lemmas.Result.{err_from_is_err_and}
use Rattle.printed_text.proofs.Feeds.{finish_fails, finishes}
use Rattle.printed_text.proofs.pieces.PrintedReader.finish.Goals as goal

pub returns-in_err-take_lines : goal.returns-in_err-take_lines
returns-in_err-take_lines c =
    let p = err_from_is_err_and c.from_residual.result c.from_residual.ensures.1 in
    λ fed s. finish_fails fed c.deref.result.now c.args.self c.take_lines.new.self c.in_err-take_lines.field-0.0 _ c.deref.ensures.value c.in_err-take_lines.ensures.taken (p.1 ∙ ap Err p.2) s

pub returns : goal.returns
returns c = λ fed s. finishes fed c.deref.result.now c.args.self _ c.take_lines.new.self c.deref.ensures.value c.in_ok-take_lines.ensures.taken s
