use Rattle.std.proofs.Common.{ap, ◌∙◌, length, map, refl, arith}
use Rattle.std.proofs.lemmas.List.{map_push}
use Rattle.fib_addr.specs.Views.{addr_as}
use Rattle.fib_run.proofs.AskLemmas.{ask_line, empty_line, few_texts, lines_cut, no_line, starts, wrong_line}
use Rattle.fib_run.proofs.asks.read_lines.Goals as goal

pub loop-line-init : goal.loop-line-init
loop-line-init c = starts _ _ _ _ _ refl (lines_cut c.args.text.now _ (c.into_iter-line-iterator.ensures.into_iter_gives ∙ c.lines-line-items.ensures.value))

pub overflow_add-lines : goal.overflow_add-lines
overflow_add-lines c = omega (arith, c.requires, c.loop-line.invariant.count, few_texts c.args.text.now, ap length c.in-Some.ensures.steps)

pub returns : goal.returns
returns c = no_line _ _ _ _ _ _ c.in-None.ensures.steps.0 c.loop-line.invariant

pub returns-in_default : goal.returns-in_default
returns-in_default c = wrong_line _ _ _ _ _ c.in-Some.line.now _ _ c.in-Some.ensures.steps c.if-not-is_empty.ensures c.in_default.ensures c.loop-line.invariant

pub loop-line-preserved-in-Continue-1 : goal.loop-line-preserved-in-Continue-1
loop-line-preserved-in-Continue-1 c = ask_line _ _ _ _ _ _ _ c.in-Some.line.now _ _ c.in-Some.ensures.steps c.if-not-is_empty.ensures c.in-Some-read_addr.ensures (ap (map addr_as) c.in_ok-push.ensures.items ∙ map_push addr_as _ _) c.loop-line.invariant

pub loop-line-preserved : goal.loop-line-preserved
loop-line-preserved c = empty_line _ _ _ _ _ c.in-Some.line.now _ _ c.in-Some.ensures.steps c.if-not-is_empty.ensures c.loop-line.invariant
