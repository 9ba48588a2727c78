-- What is read of asks that come in pieces.
use Rattle.std.specs.Prelude.{◌≡◌, ℕ, ◌+◌, List, ◌++◌, length, map, false, Result, Ok, Err}
use Rattle.std.specs.declared.vec.Vec.{Vec}
use Rattle.octet_fields.specs.Field.{◌>>=◌}
use Rattle.table_model.specs.Address.{Address}
use Rattle.fib_addr.specs.Views.{addr_as}
use Rattle.fib_addr.specs.declared.addr.Addr.{Addr}
use Rattle.fib_io.specs.Causes.{Rose}
use Rattle.fib_io.specs.declared.pieces.ReadError.{ReadError}
use Rattle.fib_io.specs.declared.pieces.ReadError.TheVariants as pieces
use Rattle.printed_text.specs.Texts.{lines_of, line_texts}
use Rattle.fib_run.specs.declared.asks.AskError.{AskError}
use Rattle.fib_run.specs.declared.asks.AskError.TheVariants.{BadLine, NoMemory, Fault, TooLarge}
use Rattle.fib_run.specs.declared.asks.AskReader.{AskReader}
use Rattle.fib_due.specs.declared.outcome.Outcome.{Outcome}
use Rattle.fib_due.specs.declared.outcome.Outcome.TheVariants as outcome
use Rattle.fib_due.specs.declared.outcome.Which.TheVariants.{Asks}
use Rattle.fib_due.specs.Asks.{addresses_from, asks_in, ended_asks_in, ended_lines, has_feed}
use Rattle.fib_due.specs.Stops.{Stop, FailsDue, IsDueIfTold}

-- the addresses of lines after n others, after those of the others
abbrev pub asks_behind : List Address → ℕ → List (List ℕ) → Result (List Address) ℕ
asks_behind asks n lines = addresses_from (n + 1) lines >>= λ more. Ok (asks ++ more)

-- what a reading of lines after n others made of the addresses and of the lines' number
abbrev pub ReadsLines : {T : Type 0} → List Address → ℕ → List (List ℕ) → Result T AskError → List Address → ℕ → Type 0
ReadsLines old n lines (Ok x) new m = (asks_behind old n lines ≡ Ok new) × (m ≡ n + length lines)
ReadsLines old n lines (Err (BadLine line)) new m = asks_behind old n lines ≡ Err line
ReadsLines old n lines (Err NoMemory) new m = Unit {0}
ReadsLines old n lines (Err Fault) new m = ⊥
ReadsLines old n lines (Err TooLarge) new m = ⊥

-- the octets are lines that have ended, so that what follows them begins a line
pub record AreEnded (octets : List ℕ) : Type 0 where
  pub apart : (more : List ℕ) → lines_of (octets ++ more) ≡ lines_of octets ++ lines_of more
  pub ended : ended_lines octets ≡ lines_of octets

-- The reader was fed these octets: lines that have ended, which were read and counted, and octets without a line feed, which it holds.
pub record AsksStand (fed : List ℕ) (reader : AskReader) : Type 0 where
  pub front : List ℕ
  pub ends : AreEnded front
  pub parts : fed ≡ front ++ reader.held.items
  pub asks : addresses_from 1 (line_texts front) ≡ Ok (map addr_as reader.asks.items)
  pub lines : reader.lines ≡ length (lines_of front)
  pub unended : has_feed reader.held.items ≡ false

-- this line of the octets has its line feed and is the first that is neither empty nor an address, whatever follows
pub record HasBadLine (octets : List ℕ) (line : ℕ) : Type 0 where
  pub whole : (more : List ℕ) → asks_in (octets ++ more) ≡ Err line
  pub ended : (more : List ℕ) → ended_asks_in (octets ++ more) ≡ Err line

-- what became of a reader that was fed these octets in all
abbrev pub AsksFed : {T : Type 0} → List ℕ → Result T AskError → AskReader → Type 0
AsksFed octets (Ok x) new = AsksStand octets new
AsksFed octets (Err (BadLine line)) new = HasBadLine octets line
AsksFed octets (Err NoMemory) new = Unit {0}
AsksFed octets (Err Fault) new = ⊥
AsksFed octets (Err TooLarge) new = ⊥

-- a refusal of what is read, as one of asks
abbrev pub ask_of_input : ReadError → AskError
ask_of_input pieces.Fault = Fault
ask_of_input pieces.TooLarge = TooLarge
ask_of_input pieces.NoMemory = NoMemory

-- the outcome if asks aren't read; a line that should be an address is wrong for reason 1
abbrev pub ask_refusal : AskError → Outcome
ask_refusal (BadLine line) = outcome.BadLine Asks line 1
ask_refusal NoMemory = outcome.NoMemory
ask_refusal Fault = outcome.ReadFault
ask_refusal TooLarge = outcome.TooLarge Asks

-- what was read is what the definition gives, but for a fault of reading or running out of memory
abbrev pub BringsAsks : {X : Type 0} → Result (Vec Addr X) AskError → Result (List Address) Stop → Type 0
BringsAsks (Ok asks) due = IsDueIfTold due (Ok (map addr_as asks.items))
BringsAsks (Err error) due = FailsDue (ask_refusal error) due

-- a fault comes only if the count of the name rose, and every other answer leaves all counts
abbrev pub AsksFrom : {T : Type 0} → (List ℕ → ℕ) → (List ℕ → ℕ) → List ℕ → Result T AskError → Type 0
AsksFrom before now name (Err Fault) = Rose (before name) (now name)
AsksFrom before now name result = now ≡ before
