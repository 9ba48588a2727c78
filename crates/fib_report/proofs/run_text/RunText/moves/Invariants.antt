use Rattle.std.proofs.Common.{map, take}
use Rattle.fib_report.specs.Rows.{of_moves}
use Rattle.fib_report.specs.Sections.{WritesRows}
use Rattle.fib_report.specs.Views.{moves_as}
use Rattle.fib_report.proofs.run_text.RunText.moves.Given as goal

-- the rows of the events so far are written
abbrev pub invariant-loop-event : goal.invariant-loop-event
invariant-loop-event l = WritesRows l.fn.self l.self (map of_moves (map moves_as (take l.event-index l.moves)))
