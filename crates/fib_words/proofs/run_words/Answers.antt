use Rattle.std.proofs.Common.{◌∙◌, ap}
use Rattle.std.specs.Prelude.{option_map}
use Rattle.fib_words.specs.Commands.{named_as}
use Rattle.fib_words.proofs.Words.{no_dump, no_every, no_sizes, all_names}
use Rattle.fib_words.proofs.run_words.Goals as goal

pub returns-in_err-dump-clause-same : goal.returns-in_err-dump-clause-same
returns-in_err-dump-clause-same c =
    ap (option_map named_as) c.from_residual.ensures ∙ no_dump _ c.in_err-dump.ensures

pub returns-in_err-every-clause-same : goal.returns-in_err-every-clause-same
returns-in_err-every-clause-same c =
    ap (option_map named_as) c.from_residual-in_err-every.ensures ∙ no_every _ _ _ c.in_ok-dump.ensures c.get_str-2.ensures c.in_err-every.ensures

pub returns-in_err-sizes-clause-same : goal.returns-in_err-sizes-clause-same
returns-in_err-sizes-clause-same c =
    ap (option_map named_as) c.from_residual-in_err-sizes.ensures
    ∙ no_sizes _ _ _ _ c.in_ok-dump.ensures c.get_str-2.ensures c.in_ok-every.ensures c.in_err-sizes.ensures.same

pub returns-clause-same : goal.returns-clause-same
returns-clause-same c =
    all_names _ _ _ _ _ _ _ _ _ _ _ _ c.in_ok-dump.ensures c.get_str-2.ensures c.in_ok-every.ensures c.in_ok-sizes.ensures.same c.get_str-3.ensures c.get_str-4.ensures c.get_str-5.ensures c.get_str-6.ensures c.is_on.ensures c.get_str-7.ensures c.is_on-2.ensures
