use Rattle.std.proofs.Common.{flat_map, map, take}
use Rattle.std.specs.List.{AllByRecursion}
use Rattle.fib_report.specs.Views.{answer_as}
use Rattle.printed_text.specs.Rows.{IsRow, text_of}
use Rattle.fib_report.specs.Rows.{of_answer}
use Rattle.fib_report.specs.Writing.{AddsRows}
use Rattle.fib_report.proofs.rows.put_answers.Given as goal

-- the rows of the answers so far are added, and each is read as it is
abbrev pub invariant-loop-answer : goal.invariant-loop-answer
invariant-loop-answer g l = AddsRows g.W.Write.contents l.fn.out l.out (text_of (flat_map (of_answer l.hops) (map answer_as (take l.answer-index l.answers)))) × AllByRecursion IsRow (flat_map (of_answer l.hops) (map answer_as (take l.answer-index l.answers)))
