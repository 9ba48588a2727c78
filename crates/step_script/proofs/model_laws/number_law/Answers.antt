use Rattle.std.proofs.Common.{◌-◌, refl, arith, inl, inr}
use Rattle.std.proofs.lemmas.Bool.{cases_lt}
use Rattle.table_model.specs.declared.family.Family.TheVariants.{V4, V6}
use Rattle.step_script.proofs.model_laws.number_law.Goals as goal

pub returns-clause-some : goal.returns-clause-some
returns-clause-some c = λ n few. elim (cases_lt n 64) [
  | inl low ↦ (V4, n, (refl, low))
  | inr high ↦ (V6, n - 64, (omega (arith, high), omega (arith, few, high)))
]
