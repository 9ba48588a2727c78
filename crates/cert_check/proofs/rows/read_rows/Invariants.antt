use Rattle.std.proofs.Common.{◌≡◌, ◌+◌, ◌≤◌, length, [], ◌∷◌}
use Rattle.table_model.specs.declared.family.Family.TheVariants.{V4, V6}
use Rattle.table_model.specs.Entries.{Entries}
use Rattle.cert_model.specs.Verdict.{wrong_row}
use Rattle.cert_check.specs.Marks.{AreMarks}
use Rattle.cert_check.specs.Runs.{TellsBoth}
use Rattle.cert_check.specs.Stack.{stack_as, due_as, leaf_weight, AllRight, BoundsTold}
use Rattle.cert_check.proofs.rows.read_rows.Given as goal

abbrev pub invariant-loop-row : goal.invariant-loop-row
invariant-loop-row l =
    AreMarks (l.number + 1) l.reading.marks.items × (leaf_weight (stack_as l.reading.stack.items) ≤ l.number) × (l.number + length l.rows ≡ length l.initial.rows)
    × ((R : Entries) → TellsBoth R l.runs → (wrong_row R l.initial.rows (V4 ∷ V6 ∷ []) [] 1 ≡ wrong_row R l.rows (due_as l.reading.due) (stack_as l.reading.stack.items) (l.number + 1))
    × AllRight R (stack_as l.reading.stack.items) × BoundsTold R l.reading.due l.reading.v4 l.reading.v6)

abbrev pub decreases-loop-row : goal.decreases-loop-row
decreases-loop-row l = length l.rows
