use Rattle.std.proofs.Common.{arith, refl}
use Rattle.std.proofs.lemmas.Bool.{ltb-true}
use Rattle.cert_check.proofs.Holding.{after_from}
use Rattle.cert_check.proofs.runs.begin_after.Goals as goal

pub returns-else-place-runs : goal.returns-else-place-runs
returns-else-place-runs c = λ runs e. after_from c.args.number c.args.runs.now c.args.place _ _ (omega (arith, c.requires, c.if-place-runs.false)) refl (ltb-true _ _ e) runs
