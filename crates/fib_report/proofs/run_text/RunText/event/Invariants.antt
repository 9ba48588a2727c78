use Rattle.std.proofs.Common.{map, take}
use Rattle.fib_delta.specs.Views.{change_as}
use Rattle.fib_report.specs.Rows.{of_change}
use Rattle.fib_report.specs.Sections.{WritesRows, text_hops}
use Rattle.fib_report.proofs.run_text.RunText.event.Given as goal

-- the rows of the changes so far are written
abbrev pub invariant-loop-change : goal.invariant-loop-change
invariant-loop-change l = WritesRows l.fn.self l.self (map (λ c. of_change (text_hops l.fn.self) (l.event, c)) (map change_as (take l.change-index l.changes)))
