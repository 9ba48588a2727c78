use Rattle.std.proofs.Common.{map, take}
use Rattle.fib_addr.specs.Views.{entry_as}
use Rattle.fib_report.specs.Rows.{section_rows}
use Rattle.fib_report.specs.Sections.{WritesRows, text_hops}
use Rattle.fib_report.proofs.run_text.RunText.entries.Given as goal

-- the rows of the entries so far are written
abbrev pub invariant-loop-entry : goal.invariant-loop-entry
invariant-loop-entry l = WritesRows l.fn.self l.self (section_rows l.section (text_hops l.fn.self) (map entry_as (take l.entry-index l.entries)))
