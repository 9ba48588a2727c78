use Rattle.fib_report.specs.Rows.{of_answer}
use Rattle.fib_report.specs.Views.{answer_as}
use Rattle.fib_report.proofs.Loops.{AddsRows-items}
use Rattle.fib_report.proofs.Proper.{more_proper}
use Rattle.fib_report.proofs.rows.put_answers.Goals as goal

pub loop-answer-preserved : goal.loop-answer-preserved
loop-answer-preserved g c =
    let rows = of_answer c.args.hops.now in
    (AddsRows-items _ _ _ _ rows answer_as _ _ c.answer-item.result c.loop-answer-test.true c.answer-item.is c.loop-answer.invariant.0 c.in_ok-put_lookup.ensures.added, more_proper rows answer_as _ _ c.answer-item.result c.loop-answer-test.true c.answer-item.is c.loop-answer.invariant.1 c.in_ok-put_lookup.ensures.proper)
