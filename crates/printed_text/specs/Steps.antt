-- What one more row or line makes of what was read.
use Rattle.std.specs.Prelude.{◌≡◌, ◌<◌, ◌≤◌, ◌+◌, ℕ, List, ◌++◌, Option, Result, Ok, Err, fold, length, option_to_list}
use Rattle.table_model.specs.Address.{Address}
use Rattle.fib_addr.specs.Hops.{with_hop, most_hops}
use Rattle.fib_addr.specs.declared.hops.HopError.{HopError}
use Rattle.fib_addr.specs.declared.hops.HopError.TheVariants as hop_error
use Rattle.printed_text.specs.Rows.{PrintedRow}
use Rattle.printed_text.specs.Reading.{too_many_hops}
use Rattle.printed_text.specs.Texts.{hops_in, numbered_hop, rows_after}
use Rattle.printed_text.specs.declared.kind.Kind.{Kind}
use Rattle.printed_text.specs.Used.{Used, used_of, kind_entry, kind_hop, route_entry, least_entry, cert_part}
use Rattle.printed_text.specs.Kinds.{KindEntries}
use Rattle.printed_text.specs.declared.printed_row.PrintedRow as code_row
use Rattle.printed_text.specs.Printed.{bad_as, printed_row_as}
use Rattle.printed_text.specs.declared.error.PrintedError.{PrintedError}
use Rattle.printed_text.specs.declared.error.PrintedError.TheVariants as error

-- the hops and one more, if there is one
abbrev pub hops_with : List Address → Option Address → List Address
hops_with hops hop = fold with_hop hops (option_to_list hop)

-- the hops after a row
abbrev pub hops_after_row : List Address → PrintedRow → List Address
hops_after_row hops row = fold with_hop hops (numbered_hop row)

-- what is used of the rows before and of this one
abbrev pub used_after : Used → PrintedRow → Used
used_after u row = record {
  routes = u.routes ++ route_entry (hops_after_row u.hops row) row;
  least = u.least ++ least_entry (hops_after_row u.hops row) row;
  cert = u.cert ++ cert_part (hops_after_row u.hops row) row;
  hops = hops_after_row u.hops row;
}

-- what taking a hop returned: there is one too many, or out of memory, or what P says
abbrev pub Numbers : {A : Type 0} → Result A HopError → List Address → (A → Type 0) → Type 0
Numbers (Ok x) hops P = P x × (length hops ≤ most_hops)
Numbers (Err hop_error.HopsFull) hops P = most_hops < length hops
Numbers (Err hop_error.NoMemory) hops P = Unit {0}

-- the row of the line of this number, or why it has none
abbrev pub IsRowOf : Result code_row.PrintedRow PrintedError → ℕ → Result PrintedRow ℕ → Type 0
IsRowOf (Ok row) number read = read ≡ Ok (printed_row_as row)
IsRowOf (Err (error.BadRow bad)) number read = (bad.line ≡ number) × (read ≡ Err bad.why)
IsRowOf (Err error.NoMemory) number read = ⊥

-- why a line isn't taken, if its hop has no number for this reason
abbrev pub IsHopRefused : ℕ → HopError → PrintedError → Type 0
IsHopRefused number hop_error.HopsFull e = e ≡ error.BadRow (record { line = number; why = too_many_hops })
IsHopRefused number hop_error.NoMemory e = e ≡ error.NoMemory

-- ---- a line, if `after` says what a row makes of what was read, and `hops` which hops have numbers then

-- why a line is bad that has this row, or that has none for this reason
abbrev pub Refused : {U : Type 0} → (U → PrintedRow → U) → (U → List Address) → ℕ → U → Result PrintedRow ℕ → Type 0
Refused after hops why old (Ok row) = (why ≡ too_many_hops) × (most_hops < length (hops (after old row)))
Refused after hops why old (Err reason) = why ≡ reason

-- the row is taken
abbrev pub Taken : {U : Type 0} → (U → PrintedRow → U) → (U → List Address) → U → U → Result PrintedRow ℕ → Type 0
Taken after hops old new (Ok row) = (new ≡ after old row) × (length (hops new) ≤ most_hops)
Taken after hops old new (Err reason) = ⊥

-- what taking a line returned, whose number and row these are
abbrev pub TakesLine : {A U : Type 0} → (U → PrintedRow → U) → (U → List Address) → Result A PrintedError → U → U → ℕ → Result PrintedRow ℕ → Type 0
TakesLine after hops (Ok x) old new number read = Taken after hops old new read
TakesLine after hops (Err (error.BadRow bad)) old new number read = (bad.line ≡ number) × Refused after hops bad.why old read
TakesLine after hops (Err error.NoMemory) old new number read = Unit {0}

-- ---- lines, after others

-- What taking lines returned, after n others with these rows: all rows are kept, and the lines are counted; or the first bad line.
abbrev pub TakesLines : Result ℕ PrintedError → List PrintedRow → ℕ → List (List ℕ) → Used → Type 0
TakesLines (Ok m) rows n lines new = (all : List PrintedRow) × (rows_after hops_in rows (n + 1) lines ≡ Ok all) × (new ≡ used_of all) × (m ≡ n + length lines)
TakesLines (Err (error.BadRow bad)) rows n lines new = rows_after hops_in rows (n + 1) lines ≡ Err (bad_as bad)
TakesLines (Err error.NoMemory) rows n lines new = Unit {0}

-- ---- the rows of one kind

-- the hops after a row of this kind
abbrev pub hops_of_kind : Kind → List Address → PrintedRow → List Address
hops_of_kind kind hops row = fold with_hop hops (kind_hop kind row)

-- the entries before and that of this row, if it is of this kind
abbrev pub kind_after : Kind → KindEntries → PrintedRow → KindEntries
kind_after kind k row = record {
  entries = k.entries ++ kind_entry kind (hops_of_kind kind k.hops row) row;
  hops = hops_of_kind kind k.hops row;
}
