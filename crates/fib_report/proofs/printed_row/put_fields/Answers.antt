use Rattle.std.proofs.Common.{ℕ, List, Bor, map}
use Rattle.std.proofs.lemmas.List.{length-map}
use Rattle.fib_report.proofs.Joined.{OnOk-fields, row_text-plain}
use Rattle.fib_report.proofs.printed_row.put_fields.Goals as goal

pub returns : goal.returns
returns g c =
    let w = c.write_fields.ensures in let fields : List (List ℕ) = map (λ (f : Bor (List ℕ)). f.now) c.args.fields.now in
    OnOk-fields _ _ _ fields _ c.write_fields.result c.map_err.result c.requires.at (row_text-plain fields (simp length-map c.requires.fields)) c.map_err.ensures.variant w.bytes w.ended w.clean w.setup
