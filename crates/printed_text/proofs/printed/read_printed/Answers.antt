use Rattle.std.proofs.Common.{◌∙◌, Err, ap}
use Rattle.std.proofs.lemmas.Result.{err_from_is_err_and}
use Rattle.printed_text.proofs.Feeds.{whole_fails, whole_read}
use Rattle.printed_text.proofs.printed.read_printed.Goals as goal

pub returns-in_err-take_lines : goal.returns-in_err-take_lines
returns-in_err-take_lines c =
    let p = err_from_is_err_and c.from_residual.result c.from_residual.ensures.1 in
    whole_fails c.args.text.now c.new-printed.result c.take_lines.new.self c.in_err-take_lines.field-0.0 _ c.new-printed.ensures c.in_err-take_lines.ensures.taken (p.1 ∙ ap Err p.2)

pub returns : goal.returns
returns c = whole_read c.args.text.now _ c.new-printed.result c.take_lines.new.self c.new-printed.ensures c.in_ok-take_lines.ensures.taken
