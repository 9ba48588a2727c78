use Rattle.std.proofs.Common.{map, take}
use Rattle.std.specs.List.{AllByRecursion}
use Rattle.cert_model.specs.Views.{row_as}
use Rattle.printed_text.specs.Rows.{IsRow, text_of}
use Rattle.printed_text.specs.Numbered.{of_cert}
use Rattle.fib_report.specs.Writing.{AddsRows}
use Rattle.fib_report.proofs.rows.put_cert.Given as goal

-- the rows of the certificate so far are added, and each is read as it is
abbrev pub invariant-loop-row : goal.invariant-loop-row
invariant-loop-row g l = AddsRows g.W.Write.contents l.fn.out l.out (text_of (map (of_cert l.hops) (map row_as (take l.row-index l.cert)))) × AllByRecursion IsRow (map (of_cert l.hops) (map row_as (take l.row-index l.cert)))
