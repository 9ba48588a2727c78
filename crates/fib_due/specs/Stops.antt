-- Where a run stops, and what a call gives of it.
use Rattle.std.specs.Prelude.{◌≡◌, ℕ, List, Option, Some, None, Result, Ok, Err, Bool, true, false, not, ◌&&◌, if◌then◌else◌}
use Rattle.wire_model.specs.Rules.{rule_number}
use Rattle.wire_model.specs.Input.{Progress, Stopped, input}
use Rattle.fib_io.specs.Pieces.{octets_read}
use Rattle.mrt_read.specs.Cuts.{is_cut, is_small}
use Rattle.printed_text.specs.Texts.{BadLine as BadRow}
use Rattle.route_tries.specs.Sizes.{Shortage}
use Rattle.printed_text.specs.Rows.{Vrp}
use Rattle.printed_text.specs.Used.{Used}
use Rattle.step_script.specs.Script.{Step}
use Rattle.fib_due.specs.declared.outcome.Outcome.{Outcome}
use Rattle.table_model.specs.Address.{Prefix}
use Rattle.fib_addr.specs.Views.{prefix_as}
use Rattle.fib_due.specs.declared.outcome.Outcome.TheVariants.{Done, CheckNo, Differ, MovesNo, NoMemory, ReadFault, WriteFault, TooLarge, Malformed, HopsFull, TrieFull, BadLine, PathTooLong}
use Rattle.fib_due.specs.declared.outcome.MrtInput.{MrtInput}
use Rattle.fib_due.specs.declared.outcome.MrtInput.TheVariants.{Dump, Updates}
use Rattle.fib_due.specs.declared.outcome.Which.{Which}
use Rattle.fib_due.specs.declared.outcome.Which.TheVariants.{Printed, Script, Vrps}
use Rattle.fib_due.specs.declared.outcome.Which.TheVariants as all
use Rattle.fib_due.specs.Refusals.{Refusal, ManyHops, Short}

-- what isn't known: an input's content, or the text of a run in steps, which isn't a function of the inputs; a refusal; or that of a path
-- that is too long, by its prefix and its length
pub data Stop : Type 0 where
  Untold : Stop
  Refused : Outcome → Stop
  LongPath : Prefix → ℕ → Stop

-- the content of an input, if it is known
abbrev pub told_content : Option (List ℕ) → Result (List ℕ) Stop
told_content None = Err Untold
told_content (Some octets) = Ok octets

unfoldable pub sized : Which → List ℕ → Result (List ℕ) Stop
sized which octets = if is_small octets then Ok octets else Err (Refused (TooLarge which))

-- lines that are all of their form, or the number of the first that isn't; a line that should be an address is wrong for reason 1
abbrev pub lined : {A : Type 0} → Which → Result A ℕ → Result A Stop
lined which (Ok x) = Ok x
lined which (Err line) = Err (Refused (BadLine which line 1))

-- the same of lines of an input that goes on: it is too large, unless one of them isn't of its form
abbrev pub lined_past : {A : Type 0} → Which → Result A ℕ → Result A Stop
lined_past which (Ok x) = Err (Refused (TooLarge which))
lined_past which (Err line) = Err (Refused (BadLine which line 1))

-- what is used of a printed text, or the first of its lines that is no row
abbrev pub rowed : Result Used BadRow → Result Used Stop
rowed (Ok used) = Ok used
rowed (Err bad) = Err (Refused (BadLine Printed bad.line bad.why))

-- a list of VRPs, or its first line that is neither empty nor a VRP
abbrev pub listed_vrps : Result (List Vrp) BadRow → Result (List Vrp) Stop
listed_vrps (Ok vrps) = Ok vrps
listed_vrps (Err bad) = Err (Refused (BadLine Vrps bad.line bad.why))

-- the steps of a script, or the first of its lines that has none
abbrev pub scripted : Result (List Step) BadRow → Result (List Step) Stop
scripted (Ok steps) = Ok steps
scripted (Err bad) = Err (Refused (BadLine Script bad.line bad.why))

-- an input of records, among all inputs
abbrev pub input_of : MrtInput → Which
input_of Dump = all.Dump
input_of Updates = all.Updates

-- records that break no rule, if they are all of the input
abbrev pub all_records : MrtInput → Bool → Progress → Result Progress Stop
all_records which true read = Ok read
all_records which false read = Err (Refused (TooLarge (input_of which)))

-- the first record that breaks a rule, if it isn't cut where the input goes on
abbrev pub bad_record : MrtInput → Bool → Stopped → Result Progress Stop
bad_record which true stopped = Err (Refused (TooLarge (input_of which)))
bad_record which false stopped = Err (Refused (Malformed (input_of which) stopped.read.records (rule_number stopped.rule)))

-- what was read of an input which ends there or not, and whose records are cut or not
abbrev pub whole_records : MrtInput → Bool → (ℕ → Bool) → Result Progress Stopped → Result Progress Stop
whole_records which ends cut (Ok read) = all_records which ends read
whole_records which ends cut (Err stopped) = bad_record which (not ends && cut stopped.read.records) stopped

-- The records of an input, or the first that breaks a rule. Of an input of more than 2^36 octets only the first 2^36 are read: it is too large, unless a record that they have whole, or a header that they have whole, breaks a rule.
abbrev pub records_due : MrtInput → List ℕ → Result Progress Stop
records_due which octets = whole_records which (is_small octets) (is_cut (octets_read octets)) (input (octets_read octets))

-- the event that a refusal names: those of a dump are the load, event 0
abbrev pub event_in : MrtInput → ℕ → ℕ
event_in Dump n = 0
event_in Updates n = n

-- the outcome if something is too much after the event of this number
abbrev pub outcome_at : ℕ → Refusal → Outcome
outcome_at n ManyHops = HopsFull n
outcome_at n (Short s) = TrieFull n s.need s.have s.arena

-- every elementary event is taken, or the first that isn't ends the run
abbrev pub unless_stopped : {A : Type 0} → MrtInput → Option (ℕ × Refusal) → Result A Stop → Result A Stop
unless_stopped which None next = next
unless_stopped which (Some s) next = Err (Refused (outcome_at (event_in which s.0) s.1))

-- the arenas have room at the end of the load, event 0, or one hasn't
abbrev pub with_room : {A : Type 0} → Option Shortage → A → Result A Stop
with_room None x = Ok x
with_room (Some s) x = Err (Refused (outcome_at 0 (Short s)))

-- what is due is this, if all that it rests on is known
abbrev pub IsDueIfTold : {Y : Type 0} → Result Y Stop → Result Y Stop → Type 0
IsDueIfTold (Err Untold) answer = Unit {0}
IsDueIfTold (Err (Refused o)) answer = Err (Refused o) ≡ answer
IsDueIfTold (Err (LongPath p n)) answer = Err (LongPath p n) ≡ answer
IsDueIfTold (Ok y) answer = Ok y ≡ answer

-- An error is the refusal that is due, or a fault of reading or running out of memory in its place.
abbrev pub FailsDue : {Y : Type 0} → Outcome → Result Y Stop → Type 0
FailsDue Done due = ⊥
FailsDue (CheckNo x) due = ⊥
FailsDue (Differ x) due = ⊥
FailsDue (MovesNo x) due = ⊥
FailsDue WriteFault due = ⊥
FailsDue NoMemory due = Unit {0}
FailsDue ReadFault due = Unit {0}
FailsDue (PathTooLong p n) due = IsDueIfTold due (Err (LongPath (prefix_as p) n))
FailsDue o due = IsDueIfTold due (Err (Refused o))

-- What a call returned, seen by view, is what is due, but for faults and running out of memory.
abbrev pub GivesDue : {X Y : Type 0} → (X → Y) → Result X Outcome → Result Y Stop → Type 0
GivesDue view (Ok x) due = IsDueIfTold due (Ok (view x))
GivesDue view (Err o) due = FailsDue o due
