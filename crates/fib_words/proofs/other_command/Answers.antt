use Rattle.std.proofs.Common.{◌∙◌, sym, refl, ap, None, Some}
use Rattle.std.specs.Prelude.{option_map}
use Rattle.fib_words.specs.Commands.{asked_as, named_as}
use Rattle.fib_words.proofs.Words.{run_is, check_is, moves_is}
use Rattle.fib_words.proofs.other_command.Goals as goal

pub returns-in-Some-clause-same : goal.returns-in-Some-clause-same
returns-in-Some-clause-same c =
    sym (run_is c.args.matches.now c.in-Some.run'.now (Some (named_as c.in_ok-names.names)) (c.in-Some.ensures.found.0 refl) c.in-Some.ensures.rows c.in_ok-names.ensures.same)

pub returns-in_err-printed-clause-same : goal.returns-in_err-printed-clause-same
returns-in_err-printed-clause-same c =
    ap (option_map asked_as) c.from_residual-in_err-printed.ensures
    ∙ sym (check_is c.args.matches.now c.in-Some-subcommand_matches.check.now None (c.in-Some-subcommand_matches.ensures.found.0 refl) c.in-Some-subcommand_matches.ensures.rows c.in_err-printed.ensures)

pub returns-in-Some-subcommand_matches-clause-same : goal.returns-in-Some-subcommand_matches-clause-same
returns-in-Some-subcommand_matches-clause-same c =
    sym (check_is c.args.matches.now c.in-Some-subcommand_matches.check.now (Some c.in_ok-printed.printed.now) (c.in-Some-subcommand_matches.ensures.found.0 refl) c.in-Some-subcommand_matches.ensures.rows c.in_ok-printed.ensures)

pub returns-clause-same : goal.returns-clause-same
returns-clause-same c = c.moves_words.ensures.same ∙ sym (moves_is c.args.matches.now c.in_ok-moves.moves.now (c.in_ok-moves.ensures.found.0 refl) c.in_ok-moves.ensures.rows)
