use Rattle.std.proofs.Common.{◌∙◌, ap}
use Rattle.std.specs.Prelude.{option_map}
use Rattle.fib_words.specs.Commands.{save_as}
use Rattle.fib_words.proofs.Words.{all_save, no_save_dump}
use Rattle.fib_words.proofs.save_words.Goals as goal

pub returns-in_err-dump : goal.returns-in_err-dump
returns-in_err-dump c = ap (option_map save_as) c.from_residual.ensures ∙ no_save_dump _ c.in_err-dump.ensures

pub returns : goal.returns
returns c = all_save _ _ _ c.in_ok-dump.ensures c.get_str-2.ensures
