use Rattle.fib_report.specs.declared.run.Answer as code_answer
use Rattle.std.proofs.Common.{refl}
use Rattle.fib_run.proofs.Reporting.{one_answer}
use Rattle.fib_run.proofs.report.look_up_all.Goals as goal

pub loop-ask-preserved : goal.loop-ask-preserved
loop-ask-preserved g c = λ s routes t.
    let found = c.lookup-found.result in
    let x : code_answer.Answer = record { addr = c.ask-item.result; hop = found.hop; visits = found.visits } in
    one_answer s routes _ _ c.ask-item.result x _ _ c.loop-ask-test.true c.ask-item.is refl (c.lookup-found.ensures.hop s routes t) (c.lookup-found.ensures.visits s routes t) (c.loop-ask.invariant s routes t) c.in_ok-push.ensures.items
