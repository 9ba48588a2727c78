use Rattle.std.proofs.Common.{◌∙◌, ap}
use Rattle.std.specs.Prelude.{option_map}
use Rattle.fib_words.specs.Commands.{asked_as}
use Rattle.fib_words.proofs.Words.{all_moves, no_printed, no_router}
use Rattle.fib_words.proofs.moves_words.Goals as goal

pub returns-in_err-router-clause-same : goal.returns-in_err-router-clause-same
returns-in_err-router-clause-same c = ap (option_map asked_as) c.from_residual.ensures ∙ no_router _ c.in_err-router.ensures

pub returns-in_err-printed-clause-same : goal.returns-in_err-printed-clause-same
returns-in_err-printed-clause-same c = ap (option_map asked_as) c.from_residual-in_err-printed.ensures ∙ no_printed _ _ c.in_ok-router.ensures c.in_err-printed.ensures

pub returns-clause-same : goal.returns-clause-same
returns-clause-same c =
    c.moves_of.ensures.same
    ∙ all_moves _ _ _ _ _ _ _ _ c.in_ok-router.ensures c.in_ok-printed.ensures c.get_str-moves.ensures c.get_str-3.ensures c.is_on-check.ensures c.get_str-4.ensures c.is_on-steady.ensures
