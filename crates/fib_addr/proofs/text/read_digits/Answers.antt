use Rattle.std.proofs.Common.{refl, sym, subst, ◌^◌, ◌≤◌}
use Rattle.std.specs.Prelude.{IfNone}
use Rattle.std.specs.Str.Parse.{AllDigits, digits_value}
use Rattle.fib_addr.proofs.Numbers.{no_digit_more, one_digit_more}
use Rattle.fib_addr.proofs.text.read_digits.Goals as goal

pub returns-in_err-number-clause-none : goal.returns-in_err-number-clause-none
returns-in_err-number-clause-none c =
    let text = c.args.text.now in
    subst (λ r. IfNone r (AllDigits 10 text → 2 ^ 64 ≤ digits_value 10 text)) (sym c.from_residual.ensures) (no_digit_more text c.loop-octet.octet-index _ c.loop-octet.number c.loop-octet-test.true refl c.in_err-number.ensures.none c.loop-octet.invariant)

pub loop-octet-preserved : goal.loop-octet-preserved
loop-octet-preserved c = one_digit_more c.args.text.now c.loop-octet.octet-index _ c.loop-octet.number c.in_ok-number.number c.loop-octet-test.true refl c.in_ok-number.ensures.more c.loop-octet.invariant
