-- What a run or a check leaves.
use Rattle.std.specs.Prelude.{◌≡◌, ℕ, List, [], ◌∷◌, ◌++◌, codes, decimal, Option, Some, None, IfSome, Result, Ok, Err, ◌⊎◌, option_to_list}
use Rattle.fib_io.specs.Causes.{Rose}
use Rattle.printed_text.specs.Rows.{Vrp}
use Rattle.fib_io.specs.Octets.{Adds, AddsSome}
use Rattle.fib_addr.specs.Text.{prefix_text}
use Rattle.fib_addr.specs.Views.{prefix_as}
use Rattle.fib_addr.specs.declared.prefix.Prefix as code_prefix
use Rattle.fib_same.specs.Gives.{names_at}
use Rattle.router_moves.specs.Due.{names_asked}
use Rattle.router_moves.specs.Checked.{names_claimed}
use Rattle.fib_same.specs.Views.{difference_as}
use Rattle.fib_same.specs.declared.compare.Difference as code_difference
use Rattle.cert_check.specs.declared.refusal.No as code
use Rattle.cert_check.specs.Views.{no_as}
use Rattle.router_moves.specs.Judged.{wrong_moves_as}
use Rattle.router_moves.specs.declared.verdict.WrongMoves as code_moves
use Rattle.fib_due.specs.declared.outcome.Which.{Which}
use Rattle.fib_due.specs.declared.outcome.Which.TheVariants.{Asks, Vrps, Dump, Updates, Printed, Script, Text}
use Rattle.fib_due.specs.declared.outcome.Outcome.{Outcome}
use Rattle.fib_due.specs.declared.outcome.Outcome.TheVariants.{Done, CheckNo, Differ, MovesNo, Usage, ReadFault, WriteFault, NoMemory, TooLarge, Malformed, HopsFull, TrieFull, BadLine, PeersFull, PathTooLong}
use Rattle.fib_due.specs.declared.outcome.MrtInput.TheVariants as mrt
use Rattle.fib_due.specs.Stepping.{events_of}
use Rattle.fib_due.specs.Stops.{Stop, Untold, Refused, LongPath}
use Rattle.fib_words.specs.Commands.{Named, NamedSave, NamedSteps, Asked, Run, Check, Make, Steps, Same, Save, Moves, CheckMoves, command_of}
use Rattle.fib_due.specs.Due.{Output, Wrong, Refuted, Differs, MovesRefuted, asks_at, load_at, output_text, script_at, sizes_of, steps_sizes, vrps_at, wrong_in}

-- the outcome at the end: Done, what a check finds wrong, where texts differ, or what is wrong with what a router was told to change
abbrev pub EndsBy : Option Wrong → Outcome → Type 0
EndsBy None outcome = outcome ≡ Done
EndsBy (Some (Refuted fault)) outcome = (x : code.No) × (outcome ≡ CheckNo x) × (no_as x ≡ fault)
EndsBy (Some (Differs d)) outcome = (x : code_difference.Difference) × (outcome ≡ Differ x) × (difference_as x ≡ d)
EndsBy (Some (MovesRefuted wrong)) outcome = (x : code_moves.WrongMoves) × (outcome ≡ MovesNo x) × (wrong_moves_as x ≡ wrong)

-- the outcome is the one that is due, if all that it rests on is known
abbrev pub IsDue : Result Output Stop → Outcome → Type 0
IsDue (Ok output) outcome = EndsBy (wrong_in output) outcome
IsDue (Err Untold) outcome = Unit {0}
IsDue (Err (Refused o)) outcome = outcome ≡ o
IsDue (Err (LongPath p n)) outcome = (q : code_prefix.Prefix) × (outcome ≡ PathTooLong q n) × (prefix_as q ≡ p)

-- nothing is refused
abbrev pub IsAccepted : Result Output Stop → Type 0
IsAccepted (Ok output) = Unit {0}
IsAccepted (Err Untold) = Unit {0}
IsAccepted (Err (Refused o)) = ⊥
IsAccepted (Err (LongPath p n)) = ⊥

-- what is to be written then
abbrev pub text_due : Result Output Stop → Option (List ℕ)
text_due (Ok output) = Some (output_text output)
text_due (Err Untold) = None
text_due (Err (Refused o)) = Some []
text_due (Err (LongPath p n)) = Some []

-- The outcome is the one that is due. A fault of reading or running out of memory may come in its place, and a fault of writing if nothing is refused.
abbrev pub Meets : Result Output Stop → Outcome → Type 0
Meets d NoMemory = Unit {0}
Meets d ReadFault = Unit {0}
Meets d WriteFault = IsAccepted d
Meets d outcome = IsDue d outcome

-- out has the whole text at Done, if either check says no and if texts differ, its first n octets at a fault of writing, and nothing new else
abbrev pub Writes : Option (List ℕ) → Option (List ℕ) → Option (List ℕ) → Outcome → Type 0
Writes text old new Done = IfSome text (λ t. Adds old new t)
Writes text old new (CheckNo x) = IfSome text (λ t. Adds old new t)
Writes text old new (Differ x) = IfSome text (λ t. Adds old new t)
Writes text old new (MovesNo x) = IfSome text (λ t. Adds old new t)
Writes text old new WriteFault = IfSome text (λ t. AddsSome old new t)
Writes text old new outcome = new ≡ old

-- names that come after an input which isn't refused
abbrev pub after : {A : Type 0} → Result A Stop → List (List ℕ) → List (List ℕ)
after (Err (Refused o)) names = []
after (Err (LongPath p n)) names = []
after (Err Untold) names = names
after (Ok x) names = names

-- the dump, and then the updates if it is accepted and tries of its routes have room
abbrev pub feeds_named : (List ℕ → Option (List ℕ)) → List Vrp → Named → List (List ℕ)
feeds_named content vrps named = named.dump ∷ after (load_at (sizes_of named) content vrps named.dump) (option_to_list named.updates)

-- the same after a list of VRPs, if it is accepted; whether the dump is may rest on it
abbrev pub feeds_behind : (List ℕ → Option (List ℕ)) → Named → Result (List Vrp) Stop → List (List ℕ)
feeds_behind content named (Ok vrps) = feeds_named content vrps named
feeds_behind content named (Err Untold) = named.dump ∷ option_to_list named.updates
feeds_behind content named (Err (Refused o)) = []
feeds_behind content named (Err (LongPath p n)) = []

-- the inputs that are to be read, up to the first that is refused
abbrev pub reads_named : (List ℕ → Option (List ℕ)) → Named → List (List ℕ)
reads_named content named = option_to_list named.asks ++ after (asks_at content named.asks) (option_to_list named.vrps ++ feeds_behind content named (vrps_at content named.vrps))

-- the script, the dump, and then the updates, each if those before it are accepted
abbrev pub reads_steps : (List ℕ → Option (List ℕ)) → NamedSteps → List (List ℕ)
reads_steps content named = named.script ∷ after (script_at content named.script) (named.dump ∷ after (load_at (steps_sizes named) content [] named.dump) (named.updates ∷ []))

-- the dump, and then the updates if it is accepted
abbrev pub reads_saved : (List ℕ → Option (List ℕ)) → NamedSave → List (List ℕ)
reads_saved content named = named.dump ∷ after (events_of mrt.Dump content named.dump) (option_to_list named.updates)

-- the same of what the words ask for
abbrev pub reads_asked : (List ℕ → Option (List ℕ)) → Option Asked → List (List ℕ)
reads_asked content None = []
reads_asked content (Some (Run named)) = reads_named content named
reads_asked content (Some (Check name)) = name ∷ []
reads_asked content (Some (Make routes seed)) = []
reads_asked content (Some (Steps named)) = reads_steps content named
reads_asked content (Some (Same named)) = names_at content named.rows named.first named.rest
reads_asked content (Some (Save named)) = reads_saved content named
reads_asked content (Some (Moves named)) = names_asked content named.router named.printed
reads_asked content (Some (CheckMoves named)) = names_claimed content named.router named.printed named.moves

unfoldable pub reads : List (List ℕ) → (List ℕ → Option (List ℕ)) → List (List ℕ)
reads words content = reads_asked content (command_of words)

-- the count of one of these names rose
abbrev pub OneRose : List (List ℕ) → (List ℕ → ℕ) → (List ℕ → ℕ) → Type 0
OneRose [] before now = ⊥
OneRose (name ∷ names) before now = Rose (before name) (now name) ⊎ OneRose names before now

-- a fault of reading comes only with this cause, and any other outcome leaves all counts
abbrev pub ReadsBy : Type 0 → (List ℕ → ℕ) → (List ℕ → ℕ) → Outcome → Type 0
ReadsBy cause before now ReadFault = cause
ReadsBy cause before now outcome = now ≡ before

-- the same, if the cause is that the count of one of these names rose
abbrev pub ReadsFrom : List (List ℕ) → (List ℕ → ℕ) → (List ℕ → ℕ) → Outcome → Type 0
ReadsFrom names before now outcome = ReadsBy (OneRose names before now) before now outcome

-- the same of a call that gives something
abbrev pub ReadsFor : {X : Type 0} → Type 0 → (List ℕ → ℕ) → (List ℕ → ℕ) → Result X Outcome → Type 0
ReadsFor cause before now (Ok x) = now ≡ before
ReadsFor cause before now (Err o) = ReadsBy cause before now o

-- of a call that reads the input of this name
abbrev pub ReadsName : {X : Type 0} → List ℕ → (List ℕ → ℕ) → (List ℕ → ℕ) → Result X Outcome → Type 0
ReadsName name before now result = ReadsFor (Rose (before name) (now name)) before now result

-- of a call that reads the inputs of these names
abbrev pub ReadsNames : {X : Type 0} → List (List ℕ) → (List ℕ → ℕ) → (List ℕ → ℕ) → Result X Outcome → Type 0
ReadsNames names before now result = ReadsFor (OneRose names before now) before now result

-- a fault of writing comes only if the count of out rose, and any other outcome leaves it
abbrev pub WritesBy : ℕ → ℕ → Outcome → Type 0
WritesBy before now WriteFault = Rose before now
WritesBy before now outcome = now ≡ before

abbrev pub name_of : Which → List ℕ
name_of Asks = codes "asks"
name_of Vrps = codes "vrps"
name_of Dump = codes "dump"
name_of Updates = codes "updates"
name_of Printed = codes "printed"
name_of Script = codes "script"
name_of (Text n) = codes "text" ++ decimal n

-- the line for an outcome
abbrev pub outcome_line : Outcome → List ℕ
outcome_line Done = []
outcome_line (CheckNo x) = codes "fib: no\n"
outcome_line (Differ x) = codes "fib: differ\n"
outcome_line (MovesNo x) = codes "fib: no\n"
outcome_line Usage = codes "fib: usage\n"
outcome_line ReadFault = codes "fib: read fault\n"
outcome_line WriteFault = codes "fib: write fault\n"
outcome_line NoMemory = codes "fib: no memory\n"
outcome_line (TooLarge input) = codes "fib: too large " ++ name_of input ++ codes "\n"
outcome_line (Malformed input number rule) = codes "fib: malformed " ++ name_of input ++ codes " record " ++ decimal number ++ codes " rule " ++ decimal rule ++ codes "\n"
outcome_line (HopsFull event) = codes "fib: too many hops at event " ++ decimal event ++ codes "\n"
outcome_line (TrieFull event need have arena) = codes "fib: trie full at event " ++ decimal event ++ codes ": arena " ++ decimal arena ++ codes " needs " ++ decimal need ++ codes " of " ++ decimal have ++ codes "\n"
outcome_line (PeersFull peers) = codes "fib: too many peers: " ++ decimal peers ++ codes "\n"
outcome_line (PathTooLong p n) = codes "fib: path too long at " ++ prefix_text (prefix_as p) ++ codes ": " ++ decimal n ++ codes "\n"
outcome_line (BadLine input line why) = codes "fib: bad line " ++ name_of input ++ codes " " ++ decimal line ++ codes " why " ++ decimal why ++ codes "\n"

abbrev pub status_of : Outcome → ℕ
status_of Done = 0
status_of (CheckNo x) = 1
status_of (MovesNo x) = 1
status_of Usage = 2
status_of ReadFault = 3
status_of WriteFault = 4
status_of NoMemory = 9
status_of (TooLarge input) = 10
status_of (Malformed input number rule) = 5
status_of (TrieFull event need have arena) = 6
status_of (HopsFull event) = 7
status_of (BadLine input line why) = 8
status_of (PathTooLong p n) = 11
status_of (PeersFull peers) = 12
status_of (Differ x) = 13

-- err has the line at its end, or its count rose and it has the first n octets of the line
abbrev pub LineTold : List ℕ → Option (List ℕ) → Option (List ℕ) → ℕ → ℕ → Type 0
LineTold line old new before now = (Adds old new line × (now ≡ before)) ⊎ (AddsSome old new line × Rose before now)

-- err has the outcome's line, and at Done it is as it was
abbrev pub TellsOf : Outcome → Option (List ℕ) → Option (List ℕ) → ℕ → ℕ → Type 0
TellsOf Done old new before now = (new ≡ old) × (now ≡ before)
TellsOf outcome old new before now = LineTold (outcome_line outcome) old new before now

-- With no fault of reading and none of writing, what is due comes, or memory ran out.
abbrev pub Completes : Result Output Stop → Type 0 → Type 0 → Outcome → Type 0
Completes d read_failed write_failed result = (read_failed → ⊥) → (write_failed → ⊥) → IsDue d result ⊎ (result ≡ NoMemory)
