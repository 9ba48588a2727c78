use Rattle.std.proofs.Common.{ap, ◌∙◌, Err, length, arith}
use Rattle.std.proofs.lemmas.Result.{err_from_is_err_and}
use Rattle.printed_text.specs.Texts.{line_texts}
use Rattle.printed_text.specs.Printed.{printed_as}
use Rattle.printed_text.proofs.LinesTaken.{bad_line, empty_line, few_texts, goes_on, last_line, lines_cut, printed_way, taken_few, taken_line}
use Rattle.printed_text.proofs.printed.Printed.take_lines.Goals as goal

pub loop-line-init : goal.loop-line-init
loop-line-init c =
    let cut = c.into_iter-line-iterator.ensures.into_iter_gives ∙ c.lines-line-items.ensures.value in
    record {
      few = c.requires.few;
      count = omega (arith, ap length (lines_cut c.args.text.now _ cut));
      left = λ rows e. goes_on printed_way rows c.args.lines c.args.text.now _ _ e c.requires.few cut;
    }

pub overflow_add-number : goal.overflow_add-number
overflow_add-number c = omega (arith, c.requires.fits, c.loop-line.invariant.count, few_texts c.args.text.now, ap length c.in-Some.ensures.steps)

pub returns-clause-counted : goal.returns-clause-counted
returns-clause-counted c = omega (arith, c.loop-line.invariant.count, few_texts c.args.text.now, ap length c.in-None.ensures.steps.0)

pub returns-clause-taken : goal.returns-clause-taken
returns-clause-taken c = λ rows e. last_line rows c.args.lines (line_texts c.args.text.now) _ _ _ c.in-None.ensures.steps.0 c.loop-line.invariant.count (c.loop-line.invariant.left rows e)

pub returns-in_err-take_line-clause-taken : goal.returns-in_err-take_line-clause-taken
returns-in_err-take_line-clause-taken c =
    let p = err_from_is_err_and c.from_residual.result c.from_residual.ensures.1 in
    λ rows e.
    bad_line c.in_err-take_line.field-0.0 c.from_residual.result rows c.args.lines (line_texts c.args.text.now) (printed_as c.loop-line.self) (printed_as c.take_line.new.self) _ c.in-Some.line.now _ _ c.in-Some.ensures.steps c.if-not-is_empty.ensures (p.1 ∙ ap Err p.2) c.in_err-take_line.ensures
    (c.loop-line.invariant.left rows e)

pub loop-line-preserved-in-Continue-1 : goal.loop-line-preserved-in-Continue-1
loop-line-preserved-in-Continue-1 c = record {
  few = taken_few printed_way (printed_as c.loop-line.self) (printed_as c.take_line.new.self) _ c.in_ok-take_line.ensures;
  count = omega (arith, c.loop-line.invariant.count, ap length c.in-Some.ensures.steps);
  left = λ rows e. taken_line printed_way (printed_as c.loop-line.self) (printed_as c.take_line.new.self) _ c.in-Some.line.now _ _ _ c.in-Some.ensures.steps c.if-not-is_empty.ensures c.in_ok-take_line.ensures (c.loop-line.invariant.left rows e);
}

pub loop-line-preserved : goal.loop-line-preserved
loop-line-preserved c = record {
  few = c.loop-line.invariant.few;
  count = omega (arith, c.loop-line.invariant.count, ap length c.in-Some.ensures.steps);
  left = λ rows e. empty_line printed_way _ _ c.in-Some.line.now _ _ _ c.in-Some.ensures.steps c.if-not-is_empty.ensures (c.loop-line.invariant.left rows e);
}
