use Rattle.std.proofs.lemmas.Result.{IfOk-weaker}
use Rattle.cert_check.proofs.Holding.{new_marks}
use Rattle.cert_check.proofs.sets.no_marks.Goals as goal

pub returns : goal.returns
returns c = IfOk-weaker c.zeros.result _ _ (λ v e. new_marks 65536 v.items e) c.zeros.ensures
