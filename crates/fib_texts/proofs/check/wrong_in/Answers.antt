use Rattle.std.proofs.Common.{sym}
use Rattle.cert_model.proofs.Verdicts.{verdict_from}
use Rattle.fib_texts.proofs.check.wrong_in.Goals as goal

pub returns-in-Ok : goal.returns-in-Ok
returns-in-Ok c =
    let right = rw (c.deref.ensures.value, c.deref-2.ensures.value) at c.in-Ok.ensures.right in
    sym (verdict_from _ _ _ right)
