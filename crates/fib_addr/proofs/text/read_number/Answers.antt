use Rattle.std.proofs.Common.{ap, ◌∙◌, ◌+◌, arith, length}
use Rattle.std.specs.Prelude.{◌==◌}
use Rattle.std.specs.Bool.{then_some}
use Rattle.std.proofs.lemmas.List.{take_rest}
use Rattle.fib_addr.proofs.Numbers.{no_text, zero_in_front, not_digits, number_all}
use Rattle.fib_addr.proofs.text.read_number.Goals as goal

pub returns-in_default-clause-value : goal.returns-in_default-clause-value
returns-in_default-clause-value c = no_text (c.args.most + 1) c.args.text.now (omega arith) (omega arith)

pub returns-then-first-eq48-clause-value : goal.returns-then-first-eq48-clause-value
returns-then-first-eq48-clause-value c =
    let text = c.args.text.now in
    c.then_some.ensures
    ∙ (ap (λ t. then_some t 0) c.is_empty.ensures
    ∙ (ap (λ xs. then_some (length xs == 0) 0) (take_rest text 1) ∙ zero_in_front c.args.most text (omega arith) (omega arith) c.if-first-eq48.true))

pub returns-in_err-number-clause-value : goal.returns-in_err-number-clause-value
returns-in_err-number-clause-value c = c.from_residual.ensures ∙ not_digits c.args.most c.args.text.now (omega arith) c.in_err-number.ensures.none

pub returns-clause-value : goal.returns-clause-value
returns-clause-value c =
    c.then_some-2.ensures ∙ number_all c.args.most c.in_ok-number.number c.args.text.now (omega arith) (omega arith) (omega arith) c.if-first-eq48.false c.in_ok-number.ensures.some
