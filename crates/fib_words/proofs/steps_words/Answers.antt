use Rattle.std.proofs.Common.{◌∙◌, ap}
use Rattle.std.specs.Prelude.{option_map}
use Rattle.fib_words.specs.Commands.{steps_as}
use Rattle.fib_words.proofs.Words.{no_steps_dump, no_steps_updates, no_script, no_steps_sizes, all_steps}
use Rattle.fib_words.proofs.steps_words.Goals as goal

pub returns-in_err-dump-clause-same : goal.returns-in_err-dump-clause-same
returns-in_err-dump-clause-same c =
    ap (option_map steps_as) c.from_residual.ensures ∙ no_steps_dump _ c.in_err-dump.ensures

pub returns-in_err-updates-clause-same : goal.returns-in_err-updates-clause-same
returns-in_err-updates-clause-same c =
    ap (option_map steps_as) c.from_residual-in_err-updates.ensures ∙ no_steps_updates _ _ c.in_ok-dump.ensures c.in_err-updates.ensures

pub returns-in_err-script-clause-same : goal.returns-in_err-script-clause-same
returns-in_err-script-clause-same c =
    ap (option_map steps_as) c.from_residual-in_err-script.ensures ∙ no_script _ _ _ c.in_ok-dump.ensures c.in_ok-updates.ensures c.in_err-script.ensures

pub returns-in_err-sizes-clause-same : goal.returns-in_err-sizes-clause-same
returns-in_err-sizes-clause-same c =
    ap (option_map steps_as) c.from_residual-in_err-sizes.ensures
    ∙ no_steps_sizes _ _ _ _ c.in_ok-dump.ensures c.in_ok-updates.ensures c.in_ok-script.ensures c.in_err-sizes.ensures.same

pub returns-clause-same : goal.returns-clause-same
returns-clause-same c =
    all_steps _ _ _ _ _ c.in_ok-dump.ensures c.in_ok-updates.ensures c.in_ok-script.ensures c.in_ok-sizes.ensures.same
