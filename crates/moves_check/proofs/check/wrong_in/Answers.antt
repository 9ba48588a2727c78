use Rattle.std.proofs.Common.{map, sym, ap, ◌∙◌, length}
use Rattle.std.specs.Prelude.{option_map}
use Rattle.std.proofs.lemmas.List.{length-map}
use Rattle.cert_model.specs.Views.{row_as}
use Rattle.cert_check.proofs.Counts.{rows_fit}
use Rattle.fib_delta.specs.Views.{change_as}
use Rattle.moves_check.specs.Views.{no_moves_as}
use Rattle.moves_check.proofs.Wholes.{rows_then}
use Rattle.moves_check.proofs.check.wrong_in.Goals as goal

pub returns : goal.returns
returns c = λ R T t.
    let rows = c.args.rows.now in
    rows_then R T c.args.against.now.family (map row_as rows) (map change_as c.args.changes.now) c.read_rows.new.reading.bound (length c.args.changes.now) (option_map no_moves_as c.too_many.result) (c.in_ok-no.ensures.told c.in_default.is) (rows_fit rows)
    (sym (c.in_ok-no.ensures.read R T t) ∙ ap (option_map no_moves_as) c.in_default.is) c.too_many.ensures (sym (length-map c.args.changes.now change_as))
