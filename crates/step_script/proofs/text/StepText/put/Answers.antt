use Rattle.std.proofs.Common.{◌+◌, Some, ap, refl}
use Rattle.step_script.specs.RowViews.{step_row_as}
use Rattle.step_script.proofs.Texts.{one_more, one_longer}
use Rattle.step_script.proofs.text.StepText.put.Goals as goal

pub returns-clause-rows : goal.returns-clause-rows
returns-clause-rows c = λ rows has. record {
  at = c.in_ok-put_row.ensures.at;
  text = one_more (λ v. Some v.items) _ _ rows (step_row_as c.args.row) _ (ap (λ k. k + 1) has.steps) has.text c.in_ok-put_row.ensures;
  steps = one_longer rows (step_row_as c.args.row) c.args.self.now.steps _ has.steps refl;
}
