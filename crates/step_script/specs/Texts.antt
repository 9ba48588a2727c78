-- The text of the rows of steps so far.
use Rattle.std.specs.Prelude.{◌≡◌, List, Some, length}
use Rattle.csv.specs.Writing.{text_written}
use Rattle.fib_report.specs.Writing.{IsAtRow}
use Rattle.step_script.specs.Rows.{StepRow, rows_text}
use Rattle.step_script.specs.declared.text.StepText.{StepText}

-- these rows were written to it, and more can be
pub record HasWritten (rows : List StepRow) (t : StepText) : Type 0 where
  pub at : IsAtRow t.out
  pub text : text_written (λ v. Some v.items) t.out ≡ Some (rows_text 1 rows)
  pub steps : t.steps ≡ length rows
