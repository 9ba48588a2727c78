-- Sections of a run's text that are written one after another.
use Rattle.std.specs.Prelude.{ℕ, List, map}
use Rattle.table_model.specs.Entries.{Entries}
use Rattle.table_model.specs.Changes.{Change}
use Rattle.cert_model.specs.Rows.{CertRow}
use Rattle.printed_text.specs.Rows.{PrintedRow}
use Rattle.printed_text.specs.Numbered.{of_least}
use Rattle.fib_report.specs.Rows.{of_change, table_entry_row}
use Rattle.fib_report.specs.Sections.{TakesRows, WritesRows, text_hops}
use Rattle.fib_report.specs.declared.run_text.RunText.{RunText}

-- the rows of announcements that are Invalid, then those of changes, then those of how many changes each event needed
pub record WritesEvents (old new : RunText) (invalid : List PrintedRow) (changes : List (ℕ × Change)) (moves : List PrintedRow) : Type 0 where
  pub judged : RunText
  pub changed : RunText
  pub invalid_rows : WritesRows old judged invalid
  pub change_rows : WritesRows judged changed (map (of_change (text_hops judged)) changes)
  pub move_rows : WritesRows changed new moves

-- the rows of the kept table, then those of the least one, then those of its certificate
pub record WritesTables (old new : RunText) (table least : Entries) (rows : List CertRow) : Type 0 where
  pub listed : RunText
  pub aggregated : RunText
  pub table_rows : WritesRows old listed (map (table_entry_row (text_hops old)) table)
  pub least_rows : WritesRows listed aggregated (map (of_least (text_hops listed)) least)
  pub cert_rows : TakesRows aggregated rows new
