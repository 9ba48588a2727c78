use Rattle.std.proofs.Common.{map, sym, ap, ◌∙◌}
use Rattle.std.specs.Prelude.{option_map}
use Rattle.cert_model.specs.Views.{row_as}
use Rattle.cert_check.proofs.Counts.{rows_fit}
use Rattle.fib_addr.specs.Views.{entry_as}
use Rattle.fib_delta.specs.Views.{change_as}
use Rattle.moves_model.proofs.Verdicts.{verdict_is, verdict_from}
use Rattle.moves_model.proofs.Whole.{are_shortest}
use Rattle.moves_check.specs.Views.{no_moves_as}
use Rattle.moves_check.proofs.Wholes.{some_wrong}
use Rattle.moves_check.proofs.check.check_moves.Goals as goal

pub returns-in-None-clause-proved : goal.returns-in-None-clause-proved
returns-in-None-clause-proved c =
    let rows = c.args.rows.now in
    verdict_is c.args.family (map entry_as c.args.old.now) (map entry_as c.args.routes.now) (map change_as c.args.changes.now) (map row_as rows) (rows_fit rows) (sym c.in_ok-first_wrong.ensures ∙ ap (option_map no_moves_as) c.in-None.is)

pub returns-in-None-clause-shortest : goal.returns-in-None-clause-shortest
returns-in-None-clause-shortest c =
    are_shortest c.args.family (map entry_as c.args.routes.now) (map entry_as c.args.old.now) (map change_as c.args.changes.now) (map row_as c.args.rows.now) (returns-in-None-clause-proved c)

pub returns-in-Some-clause-unproved : goal.returns-in-Some-clause-unproved
returns-in-Some-clause-unproved c = λ proved.
    let none = verdict_from c.args.family (map entry_as c.args.old.now) (map entry_as c.args.routes.now) (map change_as c.args.changes.now) (map row_as c.args.rows.now) proved in
    some_wrong (no_moves_as c.in-Some.no) (ap (option_map no_moves_as) (sym c.in-Some.is) ∙ (c.in_ok-first_wrong.ensures ∙ none))
