-- A whole printed text: its rows, or its first bad line and why.
use Rattle.std.specs.Prelude.{ℕ, ◌+◌, List, [], ◌∷◌, ◌++◌, option_to_list, Result, Ok, Err, map, flat_map, length, nat_lt, ◌==◌, if◌then◌else◌}
use Rattle.octet_fields.specs.Field.{◌>>=◌}
use Rattle.bstr.specs.Text.{without_terminator}
use Rattle.table_model.specs.Address.{Address}
use Rattle.fib_addr.specs.Hops.{hops_of, most_hops}
use Rattle.printed_text.specs.Rows.{PrintedRow, route_row, least_row, cert_leaf_row}
use Rattle.printed_text.specs.Reading.{too_many_hops, line_in}

-- ---- lines

-- an octet before the first line
abbrev pub in_front : ℕ → List (List ℕ) → List (List ℕ)
in_front b [] = (b ∷ []) ∷ []
in_front b (line ∷ lines) = (b ∷ line) ∷ lines

-- the lines of a text: each ends with its line feed, and what follows the last line feed is a line if it isn't empty
unfoldable pub lines_of : List ℕ → List (List ℕ)
lines_of [] = []
lines_of (b ∷ text) = if b == 10 then (b ∷ []) ∷ lines_of text else in_front b (lines_of text)

-- the lines without their line feeds and one carriage return before each
abbrev pub line_texts : List ℕ → List (List ℕ)
line_texts text = map without_terminator (lines_of text)

-- ---- the hops that get numbers

-- the hop of a row that gets a number: of a route, an entry of the least table, and a leaf
abbrev pub numbered_hop : PrintedRow → List Address
numbered_hop (route_row p a) = a ∷ []
numbered_hop (least_row p hop) = option_to_list hop
numbered_hop (cert_leaf_row p hop) = option_to_list hop
numbered_hop row = []

-- the different hops of rows, in the order of their first use
abbrev pub hops_in : List PrintedRow → List Address
hops_in rows = hops_of (flat_map numbered_hop rows)

-- ---- the rows of lines

-- a line and why it is bad
pub record BadLine : Type 0 where
  pub line : ℕ
  pub why : ℕ

-- The rows with one more, which a line of this number has. `hops` says the hops that have numbers after rows; the line is bad if these
-- are more than may have numbers.
abbrev pub with_row : (List PrintedRow → List Address) → ℕ → List PrintedRow → Result PrintedRow ℕ → Result (List PrintedRow) BadLine
with_row hops n rows (Err why) = Err (record { line = n; why = why })
with_row hops n rows (Ok row) = if nat_lt most_hops (length (hops (rows ++ row ∷ []))) then Err (record { line = n; why = too_many_hops }) else Ok (rows ++ row ∷ [])

-- these rows and those of lines that are numbered from n, or the first bad line; an empty line has no row, and is counted
unfoldable pub rows_after : (List PrintedRow → List Address) → List PrintedRow → ℕ → List (List ℕ) → Result (List PrintedRow) BadLine
rows_after hops rows n [] = Ok rows
rows_after hops rows n ([] ∷ lines) = rows_after hops rows (n + 1) lines
rows_after hops rows n ((b ∷ line) ∷ lines) = with_row hops n rows (line_in (b ∷ line)) >>= λ more. rows_after hops more (n + 1) lines

-- the rows of a text, the first line being line 1, if these hops have numbers
unfoldable pub rows_by : (List PrintedRow → List Address) → List ℕ → Result (List PrintedRow) BadLine
rows_by hops text = rows_after hops [] 1 (line_texts text)

-- the rows of a text, if the hops of routes, of a least table and of leaves have numbers
abbrev pub rows_in : List ℕ → Result (List PrintedRow) BadLine
rows_in text = rows_by hops_in text
