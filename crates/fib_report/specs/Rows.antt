-- The text of a run: its printed rows, one a line.
use Rattle.std.specs.Prelude.{ℕ, List, [], ◌∷◌, ◌++◌, map, flat_map}
use Rattle.table_model.specs.Address.{Address, Prefix}
use Rattle.table_model.specs.Changes.{Change, Add, Replace, Remove, additions}
use Rattle.table_model.specs.Entries as table
use Rattle.fib_addr.specs.Hops.{hop_at}
use Rattle.printed_text.specs.Rows.{Records, Skipped, Events, Routes, Entries, Nodes, Leaves, Treated, Announced, Vrp, PrintedRow, invalid_row, add_row, replace_row, remove_row, moves_row, answer_row, visits_row, table_row, report_row, text_of}
use Rattle.printed_text.specs.Numbered.{of_route, of_least, of_cert}
use Rattle.fib_report.specs.Views.{Answer, Told}
use Rattle.fib_report.specs.declared.run.Report.{Report}
use Rattle.fib_report.specs.declared.section.Section.{Section}
use Rattle.fib_report.specs.declared.section.Section.TheVariants as section

-- ---- the row of an item, with the address of its hop; a number that no hop has is no hop

abbrev pub of_invalid : Announced × Vrp → PrintedRow
of_invalid i = invalid_row i.0 i.1

abbrev pub change_row : List Address → ℕ → Change → PrintedRow
change_row hops event (Add p h) = add_row event p (hop_at hops h)
change_row hops event (Replace p h) = replace_row event p (hop_at hops h)
change_row hops event (Remove p) = remove_row event p

abbrev pub of_change : List Address → ℕ × Change → PrintedRow
of_change hops c = change_row hops c.0 c.1

-- how many changes an event needed
abbrev pub of_moves : ℕ × ℕ → PrintedRow
of_moves m = moves_row m.0 m.1

-- the hop of an address, and then how many nodes its lookup visits
abbrev pub of_answer : List Address → Answer → List PrintedRow
of_answer hops a = answer_row a.addr (hop_at hops a.hop) ∷ visits_row a.addr a.visits ∷ []

abbrev pub table_entry_row : List Address → Prefix × ℕ → PrintedRow
table_entry_row hops e = table_row e.0 (hop_at hops e.1)

-- the rows of a section of entries; what the load adds are changes of event 0
abbrev pub section_rows : Section → List Address → table.Entries → List PrintedRow
section_rows section.Routes hops entries = flat_map (of_route hops) entries
section_rows section.Added hops entries = map (of_change hops) (map (λ c. (0, c)) (additions entries))
section_rows section.Table hops entries = map (table_entry_row hops) entries
section_rows section.Least hops entries = map (of_least hops) entries

abbrev pub report_rows : Report → List PrintedRow
report_rows r = report_row Records r.records ∷ report_row Skipped r.skipped ∷ report_row Events r.events ∷ report_row Routes r.routes ∷ report_row Entries r.entries ∷ report_row Nodes r.nodes ∷ report_row Leaves r.leaves ∷ report_row Treated r.treated ∷ []

-- the counts alone
abbrev pub report_text : Report → List ℕ
report_text r = text_of (report_rows r)

-- ---- a run

-- all rows: the routes, the Invalid announcements, the changes, how many each event needed, the answers, the table, the least table, its certificate and the report
abbrev pub printed_rows : List Address → Told → List PrintedRow
printed_rows hops run =
    flat_map (of_route hops) run.routes
    ++ map of_invalid run.invalid
    ++ map (of_change hops) run.changes
    ++ map of_moves run.moves
    ++ flat_map (of_answer hops) run.answers
    ++ map (table_entry_row hops) run.table
    ++ map (of_least hops) run.least
    ++ map (of_cert hops) run.cert
    ++ report_rows run.report

abbrev pub run_text : List Address → Told → List ℕ
run_text hops run = text_of (printed_rows hops run)
