use Rattle.std.proofs.Common.{◌+◌, ◌++◌, ◌∷◌, ap, sym, ◌∙◌, subst, decimal}
use Rattle.std.specs.Prelude.{IfNone}
use Rattle.std.proofs.lemmas.List.{take_rest}
use Rattle.fib_addr.proofs.Dots.{NoOctet, no_dot_there, no_number_there, number_and_dot}
use Rattle.fib_addr.proofs.text.read_octet.Goals as goal

pub returns-in_err-dot-clause-none : goal.returns-in_err-dot-clause-none
returns-in_err-dot-clause-none c =
    subst (λ r. IfNone r (NoOctet c.args.text.now)) (sym c.from_residual.ensures) (no_dot_there c.args.text.now c.in_err-dot.ensures)

pub returns-in_err-octet-clause-none : goal.returns-in_err-octet-clause-none
returns-in_err-octet-clause-none c =
    subst (λ r. IfNone r (NoOctet c.args.text.now)) (sym c.from_residual-in_err-octet.ensures) (no_number_there c.args.text.now c.in_ok-dot.dot c.in_ok-dot.ensures c.in_err-octet.ensures.value)

pub returns-clause-some : goal.returns-clause-some
returns-clause-some c =
    let text = c.args.text.now in
    number_and_dot text c.in_ok-dot.dot c.in_ok-octet.octet c.in_ok-dot.ensures c.in_ok-octet.ensures.value
    ∙ ap (λ rest. decimal c.in_ok-octet.octet ++ 46 ∷ rest) (sym (take_rest text (c.in_ok-dot.dot + 1)))
