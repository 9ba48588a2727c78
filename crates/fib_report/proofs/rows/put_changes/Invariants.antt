use Rattle.std.proofs.Common.{map, take}
use Rattle.std.specs.List.{AllByRecursion}
use Rattle.fib_delta.specs.Views.{change_as}
use Rattle.printed_text.specs.Rows.{IsRow, text_of}
use Rattle.fib_report.specs.Rows.{of_change}
use Rattle.fib_report.specs.Writing.{AddsRows}
use Rattle.fib_report.proofs.rows.put_changes.Given as goal

-- the rows of the changes so far are added, and each is read as it is
abbrev pub invariant-loop-event : goal.invariant-loop-event
invariant-loop-event g l = AddsRows g.W.Write.contents l.fn.out l.out (text_of (map (of_change l.hops) (map (λ c. (c.0, change_as c.1)) (take l.event-index l.changes)))) × AllByRecursion IsRow (map (of_change l.hops) (map (λ c. (c.0, change_as c.1)) (take l.event-index l.changes)))
