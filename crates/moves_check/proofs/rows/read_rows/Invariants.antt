use Rattle.std.proofs.Common.{◌≡◌, ◌+◌, [], map, take, drop}
use Rattle.std.specs.Prelude.{IsSome}
use Rattle.table_model.specs.Entries.{Entries}
use Rattle.cert_model.specs.Views.{row_as}
use Rattle.moves_model.specs.Verdict.{wrong_moves_row}
use Rattle.moves_check.specs.Stack.{demands_as, wrong_in_rest, IsAsked, EndsWithBound}
use Rattle.moves_check.proofs.rows.read_rows.Given as goal

abbrev pub invariant-loop-i : goal.invariant-loop-i
invariant-loop-i l =
    ((R T : Entries) → IsAsked l.against R T → wrong_moves_row R T l.against.family (map row_as l.rows) [] 1 ≡ wrong_in_rest R T l.against.family l.reading.bound (map row_as (drop l.i l.rows)) (demands_as l.reading.stack.items) (l.i + 1))
    × (IsSome l.reading.bound → EndsWithBound (map row_as (take l.i l.rows)) l.reading.bound)
