use Rattle.std.proofs.Common.{◌∙◌, ap, sym}
use Rattle.std.specs.Prelude.{option_map}
use Rattle.fib_words.specs.Commands.{asked_as}
use Rattle.fib_words.proofs.Words.{refused_is, taken_is}
use Rattle.fib_words.proofs.read_words.Goals as goal

pub returns-in-Err : goal.returns-in-Err
returns-in-Err c = record {
  command = refused_is _ _ c.in-Err.error c.why.result c.in_ok-command.ensures.same c.in-Err.ensures.kinds c.why.ensures.usage.0;
  within = tt;
}

pub returns-in-Some-clause-command : goal.returns-in-Some-clause-command
returns-in-Some-clause-command c =
    taken_is _ _ c.in-Ok.matches c.in_ok-command.ensures.same c.in-Ok.ensures.kinds c.in-Ok.ensures.matches ∙ (sym c.in_ok-named.ensures.same ∙ ap (option_map asked_as) c.in-Some.is)

pub returns-clause-command : goal.returns-clause-command
returns-clause-command c =
    taken_is _ _ c.in-Ok.matches c.in_ok-command.ensures.same c.in-Ok.ensures.kinds c.in-Ok.ensures.matches ∙ (sym c.in_ok-named.ensures.same ∙ ap (option_map asked_as) c.in-None.is)
