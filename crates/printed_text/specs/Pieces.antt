-- What is read of a printed text that comes in pieces.
use Rattle.std.specs.Prelude.{◌≡◌, ◌+◌, ℕ, List, ◌++◌, length, Result, Ok, Err}
use Rattle.printed_text.specs.Rows.{PrintedRow}
use Rattle.printed_text.specs.Texts.{lines_of, rows_in}
use Rattle.printed_text.specs.Used.{printed_in, used_of}
use Rattle.printed_text.specs.Printed.{bad_as, printed_as}
use Rattle.printed_text.specs.declared.error.BadRow as code_bad
use Rattle.printed_text.specs.declared.error.PrintedError.{PrintedError}
use Rattle.printed_text.specs.declared.error.PrintedError.TheVariants as error
use Rattle.printed_text.specs.declared.pieces.PrintedReader.{PrintedReader}
use Rattle.printed_text.specs.declared.pieces.TextReader.{TextReader}
use Rattle.printed_text.specs.declared.pieces.TextReader.TheVariants as text

-- what follows these octets begins a line
abbrev pub EndLines : List ℕ → Type 0
EndLines octets = (more : List ℕ) → lines_of (octets ++ more) ≡ lines_of octets ++ lines_of more

-- the lines that have ended, and one for each octet that is held: the most lines that what was fed has, and no more than its octets
abbrev pub most_lines_read : PrintedReader → ℕ
most_lines_read reader = reader.lines + length reader.held.items

-- The reader was fed these octets: whole lines, whose rows are kept and which were counted, and octets that it holds.
pub record PrintedStands (fed : List ℕ) (reader : PrintedReader) : Type 0 where
  pub front : List ℕ
  pub ends : EndLines front
  pub parts : fed ≡ front ++ reader.held.items
  pub rows : List PrintedRow
  pub read : rows_in front ≡ Ok rows
  pub kept : printed_as reader.printed ≡ used_of rows
  pub lines : reader.lines ≡ length (lines_of front)

-- the octets have this first bad line, whatever follows them
abbrev pub BreaksAtLine : List ℕ → code_bad.BadRow → Type 0
BreaksAtLine octets bad = (more : List ℕ) → printed_in (octets ++ more) ≡ Err (bad_as bad)

-- what became of a reader that was fed these octets in all
abbrev pub PrintedFed : List ℕ → Result PrintedReader PrintedError → Type 0
PrintedFed octets (Ok reader) = PrintedStands octets reader
PrintedFed octets (Err (error.BadRow bad)) = BreaksAtLine octets bad
PrintedFed octets (Err error.NoMemory) = Unit {0}

-- these octets of a text were fed: they are read so far, or a line of them is bad
abbrev pub TextStands : List ℕ → TextReader → Type 0
TextStands fed (text.Reading reader) = PrintedStands fed reader
TextStands fed (text.Refused bad) = BreaksAtLine fed bad

-- the same of a text; after a bad line none is counted
abbrev pub most_lines : TextReader → ℕ
most_lines (text.Reading reader) = most_lines_read reader
most_lines (text.Refused bad) = 0
