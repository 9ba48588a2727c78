use Rattle.std.proofs.Common.{map}
use Rattle.step_script.specs.Steps.{step_as}
use Rattle.step_script.proofs.Lines.{Left}
use Rattle.step_script.proofs.script.read_script.Given as goal

abbrev pub invariant-loop-line : goal.invariant-loop-line
invariant-loop-line l = Left (map step_as l.steps.items) l.line_number l.line-iterator l.fn.text
