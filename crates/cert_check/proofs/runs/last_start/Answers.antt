use Rattle.std.proofs.Common.{arith, refl}
use Rattle.cert_check.proofs.Holding.{begun_by}
use Rattle.cert_check.proofs.runs.last_start.Goals as goal

pub returns-else-place-eq0 : goal.returns-else-place-eq0
returns-else-place-eq0 c = λ runs. begun_by c.args.runs.now c.args.place _ _ (omega (arith, c.if-place-eq0.false)) (omega (arith, c.requires)) refl runs
