use Rattle.std.proofs.Common.{◌≡◌, [], ◌∷◌, ◌++◌}
use Rattle.csv.specs.Writing.{row_text}
use Rattle.fib_report.specs.Writing.{setup}
use Rattle.fib_report.proofs.Joined.{OnOk-fields, row_text-one}
use Rattle.fib_report.proofs.printed_row.put_line.Goals as goal

pub returns : goal.returns
returns g c =
    let w = c.write_fields.ensures in
    let row = c.args.row.now in
    let same : row_text setup (c.text.result.now ∷ []) ≡ row ++ 10 ∷ [] = rw c.text.ensures (row_text-one row c.requires.some) in
    OnOk-fields _ _ _ (c.text.result.now ∷ []) _ c.write_fields.result c.map_err.result c.requires.at same c.map_err.ensures.variant w.bytes w.ended w.clean w.setup
