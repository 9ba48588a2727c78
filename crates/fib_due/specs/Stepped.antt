-- How a run in steps ends.
use Rattle.std.specs.Prelude.{◌≡◌, ℕ, zero, suc, List, Option, Some, None, Result, Ok, Err}
use Rattle.fib_io.specs.Octets.{Adds, AddsSome}
use Rattle.table_model.specs.declared.family.Family.{Family}
use Rattle.table_model.specs.declared.family.Family.TheVariants.{V4, V6}
use Rattle.step_script.specs.Machine.{ComesTo, IsHopsFull, IsTrieFull}
use Rattle.router_steps.specs.Stepping.{Stepping, IsTextOf}
use Rattle.fib_words.specs.Commands.{Asked, Run, Check, Make, Steps, Same, Save, Moves, CheckMoves}
use Rattle.fib_due.specs.declared.reply.Reply as code_reply
use Rattle.fib_due.specs.declared.outcome.Outcome.{Outcome}
use Rattle.fib_due.specs.declared.outcome.Outcome.TheVariants.{Done, WriteFault, NoMemory, ReadFault, HopsFull, TrieFull}
use Rattle.fib_due.specs.Stops.{Stop}
use Rattle.fib_due.specs.Due.{stepping_at}

-- the number of a family's arena, that of its nodes or its leaves, among those of both
abbrev pub arena_of : Family → ℕ → ℕ
arena_of V4 zero = 0
arena_of V4 (suc a) = 1
arena_of V6 zero = 2
arena_of V6 (suc a) = 3

-- It ends before its script does: a run over the steps before one of the prepares comes to a state from which the next event can't be begun, and
-- the outcome names this event. A read may fail, or memory run out.
abbrev pub EndsEarly : Stepping → Outcome → Type 0
EndsEarly s (HopsFull event) = ComesTo s.world s.script (λ t. IsHopsFull s.world t × (event ≡ suc t.ended))
EndsEarly s (TrieFull event need have arena) = ComesTo s.world s.script (λ t. (f : Family) × (a : ℕ) × IsTrieFull s.world t f a need have × (arena ≡ arena_of f a) × (event ≡ suc t.ended))
EndsEarly s NoMemory = Unit {0}
EndsEarly s ReadFault = Unit {0}
EndsEarly s outcome = ⊥

-- at Done out has the rows of a run over the whole script, at a fault of writing the first n octets of such rows; else it ended
-- early
abbrev pub EndsRun : Stepping → Option (List ℕ) → Option (List ℕ) → Outcome → Type 0
EndsRun s old new Done = (text : List ℕ) × IsTextOf s text × Adds old new text
EndsRun s old new WriteFault = (text : List ℕ) × IsTextOf s text × AddsSome old new text
EndsRun s old new outcome = EndsEarly s outcome

-- this holds of the run, if the contents of the inputs are known and aren't refused
abbrev pub IfStepping : Result Stepping Stop → (Stepping → Type 0) → Type 0
IfStepping (Ok s) P = P s
IfStepping (Err stop) P = Unit {0}

-- so ends what the words ask for, if it is a run in steps
abbrev pub FitsSteps : (List ℕ → Option (List ℕ)) → Option Asked → Option (List ℕ) → Option (List ℕ) → Outcome → Type 0
FitsSteps content None old new outcome = Unit {0}
FitsSteps content (Some (Run named)) old new outcome = Unit {0}
FitsSteps content (Some (Check name)) old new outcome = Unit {0}
FitsSteps content (Some (Make routes seed)) old new outcome = Unit {0}
FitsSteps content (Some (Same named)) old new outcome = Unit {0}
FitsSteps content (Some (Moves named)) old new outcome = Unit {0}
FitsSteps content (Some (CheckMoves named)) old new outcome = Unit {0}
FitsSteps content (Some (Save named)) old new outcome = Unit {0}
FitsSteps content (Some (Steps named)) old new outcome = IfStepping (stepping_at content named) (λ s. EndsRun s old new outcome)

-- the same of a call that gives the text
abbrev pub GivesRun : {X : Type 0} → (X → List ℕ) → Stepping → Result X Outcome → Type 0
GivesRun view s (Ok x) = IsTextOf s (view x)
GivesRun view s (Err outcome) = EndsEarly s outcome

-- and of one that gives a reply, in which nothing is wrong
abbrev pub GivesReply : Stepping → Result code_reply.Reply Outcome → Type 0
GivesReply s (Ok reply) = IsTextOf s reply.text.items × (reply.wrong ≡ None)
GivesReply s (Err outcome) = EndsEarly s outcome

abbrev pub GivesSteps : (List ℕ → Option (List ℕ)) → Option Asked → Result code_reply.Reply Outcome → Type 0
GivesSteps content None result = Unit {0}
GivesSteps content (Some (Run named)) result = Unit {0}
GivesSteps content (Some (Check name)) result = Unit {0}
GivesSteps content (Some (Make routes seed)) result = Unit {0}
GivesSteps content (Some (Same named)) result = Unit {0}
GivesSteps content (Some (Moves named)) result = Unit {0}
GivesSteps content (Some (CheckMoves named)) result = Unit {0}
GivesSteps content (Some (Save named)) result = Unit {0}
GivesSteps content (Some (Steps named)) result = IfStepping (stepping_at content named) (λ s. GivesReply s result)
