use Rattle.std.proofs.Common.{◌≡◌, List, length}
use Rattle.step_script.specs.Rows.{StepRow}
use Rattle.step_script.specs.Texts.{HasWritten}
use Rattle.text_tests.proofs.rows.text_of.Given as goal

-- so many rows were written
abbrev pub invariant-loop-row : goal.invariant-loop-row
invariant-loop-row l = (rows : List StepRow) × HasWritten rows l.text × (length rows ≡ l.row-index)
