use Rattle.std.proofs.lemmas.Result.{err_from_is_err_and}
use Rattle.fib_io.proofs.Passing.{pass_of_none}
use Rattle.fib_texts.proofs.read.read_text.Goals as goal

pub returns-in_err-room-clause-made : goal.returns-in_err-room-clause-made
returns-in_err-room-clause-made g c =
    let p = err_from_is_err_and c.from_residual.result c.from_residual.ensures.1 in
    rw (p.1, p.2) (pass_of_none _ c.args.name.now)
