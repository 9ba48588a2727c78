use Rattle.std.proofs.Common.{Some, ap, refl, sym, ◌∙◌}
use Rattle.step_script.proofs.Texts.{no_rows}
use Rattle.step_script.proofs.text.StepText.new.Goals as goal

pub returns-clause-rows : goal.returns-clause-rows
returns-clause-rows c = record {
  at = c.row_writer.ensures.at;
  text = c.row_writer.ensures.empty ∙ ap Some (sym no_rows);
  steps = refl;
}
