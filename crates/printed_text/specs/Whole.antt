-- What a printed text is, as a whole: rows on the lines that aren't empty, or a first bad line. `hops` says the hops that have numbers
-- after rows.
use Rattle.std.specs.Prelude.{◌≡◌, ℕ, ◌+◌, ◌<◌, ◌≤◌, List, [], ◌∷◌, ◌++◌, Bool, true, false, Result, Ok, Err, map, length}
use Rattle.std.specs.List.{filter}
use Rattle.table_model.specs.Address.{Address}
use Rattle.fib_addr.specs.Hops.{most_hops}
use Rattle.printed_text.specs.Rows.{PrintedRow}
use Rattle.printed_text.specs.Reading.{too_many_hops, line_in}
use Rattle.printed_text.specs.Texts.{BadLine}

abbrev pub is_filled : List ℕ → Bool
is_filled [] = false
is_filled (b ∷ line) = true

-- each line that isn't empty has a row, and these are the rows; their hops have numbers
pub record HaveRows (hops : List PrintedRow → List Address) (lines : List (List ℕ)) (rows : List PrintedRow) : Type 0 where
  pub said : map line_in (filter is_filled lines) ≡ map Ok rows
  pub few : length (hops rows) ≤ most_hops

-- a line that reads so after these rows is bad for this reason: the field's, or that its hop is one too many
abbrev pub IsWhy : (List PrintedRow → List Address) → List PrintedRow → Result PrintedRow ℕ → ℕ → Type 0
IsWhy hops rows (Err why) reason = reason ≡ why
IsWhy hops rows (Ok row) reason = (reason ≡ too_many_hops) × (most_hops < length (hops (rows ++ row ∷ [])))

-- the line of this number, from 1, is bad, and those before it have rows
pub record IsFirstBad (hops : List PrintedRow → List Address) (lines : List (List ℕ)) (bad : BadLine) : Type 0 where
  pub before : List (List ℕ)
  pub line : List ℕ
  pub after : List (List ℕ)
  pub parts : lines ≡ before ++ line ∷ after
  pub number : bad.line ≡ length before + 1
  pub rows : List PrintedRow
  pub have : HaveRows hops before rows
  pub filled : is_filled line ≡ true
  pub reason : IsWhy hops rows (line_in line) bad.why
