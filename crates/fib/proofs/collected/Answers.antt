use Rattle.std.proofs.Common.{◌++◌, ap, ◌∙◌}
use Rattle.fib.specs.Ends.{words_left}
use Rattle.fib.proofs.Taken.{taken_more, taken_all}
use Rattle.fib.proofs.collected.Goals as goal

pub loop-word-preserved : goal.loop-word-preserved
loop-word-preserved c =
    let steps = c.in-Some.ensures.steps in
    ap (λ xs. xs ++ words_left c.next.new.self) c.in_ok-push.ensures.items ∙ (taken_more c.loop-word.all.items _ _ c.in-Some.word _ _ steps.0 steps.1 ∙ c.loop-word.invariant)

pub returns : goal.returns
returns c = taken_all c.loop-word.all.items _ _ _ c.in-None.ensures.steps.0 (c.loop-word.invariant ∙ ap words_left c.into_iter-word-iterator.ensures.into_iter_gives)
