-- What a clause sees of printed rows, and of what is kept of them.
use Rattle.std.specs.Prelude.{◌≡◌, Result, Ok, Err, map, option_map}
use Rattle.std.specs.declared.vec.Vec.{Vec}
use Rattle.fib_addr.specs.Hops.{Hops}
use Rattle.fib_addr.specs.Views.{addr_as, prefix_as, entry_as}
use Rattle.fib_addr.specs.declared.entry.Entry.{Entry}
use Rattle.printed_text.specs.Rows.{Count, Records, Skipped, Events, Routes, Entries, Nodes, Leaves, Treated, Announced, Vrp, PrintedRow, route_row, invalid_row, add_row, replace_row, remove_row, moves_row, answer_row, visits_row, table_row, least_row, cert_leaf_row, cert_join_row, cert_bound_row, report_row}
use Rattle.printed_text.specs.Reading.{AnnouncedTexts, VrpTexts}
use Rattle.printed_text.specs.Texts.{BadLine}
use Rattle.printed_text.specs.Used.{Used}
use Rattle.printed_text.specs.Kinds.{KindEntries}
use Rattle.printed_text.specs.declared.fields.AnnouncedTexts as code_announced_texts
use Rattle.printed_text.specs.declared.fields.VrpTexts as code_vrp_texts
use Rattle.printed_text.specs.declared.invalid.Announced as code_announced
use Rattle.printed_text.specs.declared.invalid.PrintedVrp as code_vrp
use Rattle.printed_text.specs.declared.printed_row.Count as code_count
use Rattle.printed_text.specs.declared.printed_row.Count.TheVariants as count
use Rattle.printed_text.specs.declared.printed_row.PrintedRow as code_printed
use Rattle.printed_text.specs.declared.printed_row.PrintedRow.TheVariants as printed
use Rattle.printed_text.specs.declared.error.BadRow as code_bad
use Rattle.printed_text.specs.declared.error.PrintedError as code_error
use Rattle.printed_text.specs.declared.error.PrintedError.TheVariants as error
use Rattle.printed_text.specs.declared.printed.Printed as code_text

abbrev pub count_as : code_count.Count → Count
count_as count.Records = Records
count_as count.Skipped = Skipped
count_as count.Events = Events
count_as count.Routes = Routes
count_as count.Entries = Entries
count_as count.Nodes = Nodes
count_as count.Leaves = Leaves
count_as count.Treated = Treated

-- ---- an announcement and a VRP

abbrev pub announced_texts_as : code_announced_texts.AnnouncedTexts → AnnouncedTexts
announced_texts_as t = record { prefix = t.prefix.now; peer = t.peer.now; peer_as = t.peer_as.now; origin = t.origin.now }

abbrev pub vrp_texts_as : code_vrp_texts.VrpTexts → VrpTexts
vrp_texts_as t = record { prefix = t.prefix.now; maxlen = t.maxlen.now; asn = t.asn.now }

abbrev pub announced_as : code_announced.Announced → Announced
announced_as a = record { prefix = prefix_as a.prefix; peer = addr_as a.peer; peer_as = a.peer_as; origin = a.origin }

abbrev pub printed_vrp_as : code_vrp.PrintedVrp → Vrp
printed_vrp_as v = record { prefix = prefix_as v.prefix; maxlen = v.maxlen; asn = v.asn }

-- ---- rows and texts

-- the row, with its addresses' and prefixes' bits
abbrev pub printed_row_as : code_printed.PrintedRow → PrintedRow
printed_row_as (printed.Route p a) = route_row (prefix_as p) (addr_as a)
printed_row_as (printed.Invalid a v) = invalid_row (announced_as a) (printed_vrp_as v)
printed_row_as (printed.Add n p hop) = add_row n (prefix_as p) (option_map addr_as hop)
printed_row_as (printed.Replace n p hop) = replace_row n (prefix_as p) (option_map addr_as hop)
printed_row_as (printed.Remove n p) = remove_row n (prefix_as p)
printed_row_as (printed.Moves event n) = moves_row event n
printed_row_as (printed.Answer a hop) = answer_row (addr_as a) (option_map addr_as hop)
printed_row_as (printed.Visits a n) = visits_row (addr_as a) n
printed_row_as (printed.Table p hop) = table_row (prefix_as p) (option_map addr_as hop)
printed_row_as (printed.Least p hop) = least_row (prefix_as p) (option_map addr_as hop)
printed_row_as (printed.Leaf p hop) = cert_leaf_row (prefix_as p) (option_map addr_as hop)
printed_row_as (printed.Join p k) = cert_join_row (prefix_as p) k
printed_row_as (printed.Bound f n) = cert_bound_row f n
printed_row_as (printed.Report c n) = report_row (count_as c) n

-- what was read of a text
abbrev pub printed_as : code_text.Printed → Used
printed_as p = record { routes = map entry_as p.routes.items; least = map entry_as p.least.items; cert = p.rows; hops = p.hops.list }

abbrev pub bad_as : code_bad.BadRow → BadLine
bad_as bad = record { line = bad.line; why = bad.why }

-- what a reader of a text returned is what the definition gives, unless memory ran out
abbrev pub IsRead : Result code_text.Printed code_error.PrintedError → Result Used BadLine → Type 0
IsRead (Ok p) due = due ≡ Ok (printed_as p)
IsRead (Err (error.BadRow bad)) due = due ≡ Err (bad_as bad)
IsRead (Err error.NoMemory) due = Unit {0}

-- the entries that were read of a kind, and the hops after them
abbrev pub kind_as : {A : Type 0} → Vec Entry A → Hops → KindEntries
kind_as entries hops = record { entries = map entry_as entries.items; hops = hops.list }

-- what a reader of one kind's rows returned, and the hops after it, are what the definition gives, unless memory ran out
abbrev pub IsKind : {A : Type 0} → Result (Vec Entry A) code_error.PrintedError → Hops → Result KindEntries BadLine → Type 0
IsKind (Ok entries) hops due = due ≡ Ok (kind_as entries hops)
IsKind (Err (error.BadRow bad)) hops due = due ≡ Err (bad_as bad)
IsKind (Err error.NoMemory) hops due = Unit {0}
