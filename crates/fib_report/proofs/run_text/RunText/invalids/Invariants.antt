use Rattle.std.proofs.Common.{map, take}
use Rattle.fib_report.specs.Rows.{of_invalid}
use Rattle.fib_report.specs.Sections.{WritesRows}
use Rattle.fib_report.specs.Views.{invalid_as}
use Rattle.fib_report.proofs.run_text.RunText.invalids.Given as goal

-- the rows of the announcements so far are written
abbrev pub invariant-loop-invalid : goal.invariant-loop-invalid
invariant-loop-invalid l = WritesRows l.fn.self l.self (map of_invalid (map invalid_as (take l.invalid-index l.invalids)))
