use Rattle.std.proofs.Common.{◌≡◌, [], ap, ◌∙◌}
use Rattle.fib_report.proofs.rows.row_writer.Goals as goal

pub returns-clause-empty : goal.returns-clause-empty
returns-clause-empty c =
    let made = c.from_writer.ensures in
    let none : c.from_writer.result.wtr.inner.items ≡ [] = ap (λ v. v.items) made.wtr ∙ c.new-2.ensures.items in
    rw (none, made.empty)
