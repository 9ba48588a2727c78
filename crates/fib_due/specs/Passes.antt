-- Which reads are made of the inputs that words name.
use Rattle.std.specs.Prelude.{◌≡◌, ◌+◌, ℕ, zero, suc, List, [], ◌∷◌, ◌++◌, map, Option, Some, None, option_to_list, Result, Ok, Err, ◌⊎◌}
use Rattle.fib_io.specs.Reads.{Anywhere, AtEnd, AtFault, PassEnd, PassInTime, PastMost, Read}
use Rattle.fib_words.specs.Commands.{Asked, Check, CheckMoves, Make, Moves, Named, NamedCheckMoves, NamedMoves, NamedSame, NamedSave, NamedSteps, Run, Same, Save, Steps}
use Rattle.fib_due.specs.declared.outcome.Outcome.{Outcome}
use Rattle.fib_due.specs.declared.outcome.Outcome.TheVariants.{Done, CheckNo, Differ, MovesNo, Usage, ReadFault, WriteFault, NoMemory, TooLarge, Malformed, HopsFull, TrieFull, BadLine, PeersFull, PathTooLong}
use Rattle.fib_due.specs.declared.outcome.Which.{Which}
use Rattle.fib_due.specs.declared.outcome.Which.TheVariants.{Asks, Vrps, Dump, Updates, Printed, Script, Text}
use Rattle.fib_due.specs.declared.reply.Reply.{Reply}
use Rattle.fib_due.specs.declared.reply.Wrong.{Wrong}
use Rattle.fib_due.specs.declared.reply.Wrong.TheVariants as wrong
use Rattle.fib_due.specs.InTime.{TextMayGoOn, RunMayGoOn, SaveMayGoOn, StepsMayGoOn}

-- an input, by what it is for, and its name
abbrev pub Input : Type 0
Input = Which × List ℕ

-- the input for this, if one is named
abbrev pub input_for : Which → Option (List ℕ) → List Input
input_for which name = map (λ n. (which, n)) (option_to_list name)

-- the dump, and then the updates
abbrev pub feed_inputs : Named → List Input
feed_inputs named = (Dump, named.dump) ∷ input_for Updates named.updates

-- The inputs of a run, in the order in which they are read: the asks, the list of VRPs, the dump, the updates. A name that stands in two words is two inputs.
abbrev pub run_inputs : Named → List Input
run_inputs named = input_for Asks named.asks ++ (input_for Vrps named.vrps ++ feed_inputs named)

-- those of a check
abbrev pub check_inputs : List ℕ → List Input
check_inputs name = (Printed, name) ∷ []

-- those of a run in steps: the script, the dump, the updates
abbrev pub load_inputs : NamedSteps → List Input
load_inputs named = (Dump, named.dump) ∷ (Updates, named.updates) ∷ []

abbrev pub steps_inputs : NamedSteps → List Input
steps_inputs named = (Script, named.script) ∷ load_inputs named

-- texts of these names, numbered from n
abbrev pub texts_from : ℕ → List (List ℕ) → List Input
texts_from n [] = []
texts_from n (name ∷ names) = (Text n, name) ∷ texts_from (n + 1) names

-- the router's text, which is text 1, and the printed one
abbrev pub moves_inputs : NamedMoves → List Input
moves_inputs named = texts_from 1 (named.router ∷ named.printed ∷ [])

-- the same, and then the text with what the router was told to change, which is text 3
abbrev pub check_moves_inputs : NamedCheckMoves → List Input
check_moves_inputs named = texts_from 1 (named.router ∷ named.printed ∷ named.moves ∷ [])

-- those that are compared: the first is text 1
abbrev pub same_inputs : NamedSame → List Input
same_inputs named = texts_from 1 (named.first ∷ named.rest)

-- those of a checkpoint: the dump, and then the updates
abbrev pub save_inputs : NamedSave → List Input
save_inputs named = (Dump, named.dump) ∷ input_for Updates named.updates

-- ---- passes over inputs, one after another

-- of which name what is held, if that is known
abbrev pub Content : Type 0
Content = List ℕ → Option (List ℕ)

-- after which octets an input is read on, by what it is for
abbrev pub Judge : Type 1
Judge = Which → List ℕ → Type 0

-- one pass over each of these inputs, one after another, each to the input's end
abbrev pub InputsRead : Content → Judge → List Input → List Read → Type 0
InputsRead content Goes [] reads = reads ≡ []
InputsRead content Goes (input ∷ inputs) reads = (first rest : List Read) × (reads ≡ first ++ rest) × PassInTime (content input.1) (Goes input.0) AtEnd input.1 first × InputsRead content Goes inputs rest

-- the inputs before this one are read, each to its end, then this one by a pass that ends so, and none after it
pub record ReadUpTo (content : Content) (Goes : Judge) (inputs : List Input) (which : Which) (end : PassEnd) (reads : List Read) : Type 0 where
  pub before : List Input
  pub name : List ℕ
  pub after : List Input
  pub order : inputs ≡ before ++ (which, name) ∷ after
  pub first : List Read
  pub whole : InputsRead content Goes before first
  pub last : List Read
  pub pass : PassInTime (content name) (Goes which) end name last
  pub all : reads ≡ first ++ last

-- the first of these inputs may be begun, and none after it
abbrev pub MayBegin : Content → Judge → List Input → List Read → Type 0
MayBegin content Goes [] reads = reads ≡ []
MayBegin content Goes (input ∷ inputs) reads = PassInTime (content input.1) (Goes input.0) Anywhere input.1 reads

-- some of the inputs are read, each to its end, in their order, and the next may be begun
pub record ReadInPart (content : Content) (Goes : Judge) (inputs : List Input) (reads : List Read) : Type 0 where
  pub before : List Input
  pub after : List Input
  pub order : inputs ≡ before ++ after
  pub first : List Read
  pub whole : InputsRead content Goes before first
  pub last : List Read
  pub begun : MayBegin content Goes after last
  pub all : reads ≡ first ++ last

-- lines that are wrong: those of asks are judged as they come, all others once their input was read to its end
abbrev pub lines_end : Which → PassEnd
lines_end Asks = Anywhere
lines_end which = AtEnd

-- The reads up to a refusal are those of the inputs before the one that is refused, and of this one. A fault of reading is that of the last read. An input is too large if a read after the last octet that is read gave some. Events that aren't taken are those of the updates, and event 0 is the load: its tries are asked for room once it was read to its end.
abbrev pub StopsReading : Content → Judge → List Input → Outcome → List Read → Type 0
StopsReading content Goes inputs ReadFault reads = (which : Which) × ReadUpTo content Goes inputs which AtFault reads
StopsReading content Goes inputs NoMemory reads = ReadInPart content Goes inputs reads
StopsReading content Goes inputs (TooLarge which) reads = ReadUpTo content Goes inputs which PastMost reads
StopsReading content Goes inputs (Malformed which number rule) reads = ReadUpTo content Goes inputs which Anywhere reads
StopsReading content Goes inputs (BadLine which line why) reads = ReadUpTo content Goes inputs which (lines_end which) reads
StopsReading content Goes inputs (HopsFull zero) reads = ReadUpTo content Goes inputs Dump Anywhere reads
StopsReading content Goes inputs (HopsFull (suc event)) reads = ReadUpTo content Goes inputs Updates Anywhere reads
StopsReading content Goes inputs (TrieFull zero need have arena) reads = ReadUpTo content Goes inputs Dump AtEnd reads
StopsReading content Goes inputs (TrieFull (suc event) need have arena) reads = ReadUpTo content Goes inputs Updates Anywhere reads
StopsReading content Goes inputs (PeersFull peers) reads = ⊥
StopsReading content Goes inputs (PathTooLong p n) reads = ⊥
StopsReading content Goes inputs Done reads = ⊥
StopsReading content Goes inputs (CheckNo x) reads = ⊥
StopsReading content Goes inputs (Differ x) reads = ⊥
StopsReading content Goes inputs (MovesNo x) reads = ⊥
StopsReading content Goes inputs WriteFault reads = ⊥
StopsReading content Goes inputs Usage reads = ⊥

-- the reads of a call: all of its inputs, or those up to the refusal
abbrev pub ReadsOf : {X : Type 0} → Content → Judge → List Input → Result X Outcome → List Read → Type 0
ReadsOf content Goes inputs (Ok x) reads = InputsRead content Goes inputs reads
ReadsOf content Goes inputs (Err o) reads = StopsReading content Goes inputs o reads

-- The reads of inputs with this outcome. Each is read to its end at Done, if either check says no, if texts differ, if candidates can't be written and at a fault of writing; else they are read up to the refusal.
abbrev pub ReadsTo : Content → Judge → List Input → Outcome → List Read → Type 0
ReadsTo content Goes inputs Done reads = InputsRead content Goes inputs reads
ReadsTo content Goes inputs (CheckNo x) reads = InputsRead content Goes inputs reads
ReadsTo content Goes inputs (Differ x) reads = InputsRead content Goes inputs reads
ReadsTo content Goes inputs (MovesNo x) reads = InputsRead content Goes inputs reads
ReadsTo content Goes inputs (PeersFull peers) reads = InputsRead content Goes inputs reads
ReadsTo content Goes inputs (PathTooLong p n) reads = InputsRead content Goes inputs reads
ReadsTo content Goes inputs WriteFault reads = InputsRead content Goes inputs reads
ReadsTo content Goes inputs o reads = StopsReading content Goes inputs o reads

-- texts up to one in which something is wrong, which is read to its end
abbrev pub ReadToOne : Content → List Input → List Read → Type 0
ReadToOne content inputs reads = (which : Which) × ReadUpTo content TextMayGoOn inputs which AtEnd reads

-- The reads of texts that are compared, or of which one is a router's: a text in which a prefix stands twice is the last one that is read.
abbrev pub ReadsTexts : Content → List Input → Outcome → List Read → Type 0
ReadsTexts content inputs (CheckNo x) reads = ReadToOne content inputs reads
ReadsTexts content inputs WriteFault reads = InputsRead content TextMayGoOn inputs reads ⊎ ReadToOne content inputs reads
ReadsTexts content inputs o reads = ReadsTo content TextMayGoOn inputs o reads

-- The reads of what words ask for: those of the inputs that they name. No read of an input is made once what was read of it before is to be refused, if the input's content is known. Words that are no command read nothing, and what is made of a number isn't read.
abbrev pub ReadsAt : Content → Option Asked → Outcome → List Read → Type 0
ReadsAt content None o reads = reads ≡ []
ReadsAt content (Some (Run named)) o reads = ReadsTo content (RunMayGoOn content named) (run_inputs named) o reads
ReadsAt content (Some (Check name)) o reads = ReadsTo content TextMayGoOn (check_inputs name) o reads
ReadsAt content (Some (Make routes seed)) o reads = reads ≡ []
ReadsAt content (Some (Steps named)) o reads = ReadsTo content (StepsMayGoOn named) (steps_inputs named) o reads
ReadsAt content (Some (Same named)) o reads = ReadsTexts content (same_inputs named) o reads
ReadsAt content (Some (Save named)) o reads = ReadsTo content SaveMayGoOn (save_inputs named) o reads
ReadsAt content (Some (Moves named)) o reads = ReadsTexts content (moves_inputs named) o reads
ReadsAt content (Some (CheckMoves named)) o reads = ReadsTexts content (check_moves_inputs named) o reads

-- the reads of texts that are compared, by what was found wrong
abbrev pub ReadsFound : Content → List Input → Option Wrong → List Read → Type 0
ReadsFound content inputs None reads = InputsRead content TextMayGoOn inputs reads
ReadsFound content inputs (Some (wrong.Differ d)) reads = InputsRead content TextMayGoOn inputs reads
ReadsFound content inputs (Some (wrong.MovesNo w)) reads = InputsRead content TextMayGoOn inputs reads
ReadsFound content inputs (Some (wrong.No x)) reads = ReadToOne content inputs reads

-- the same of a call that gives a reply
abbrev pub ReadsCompared : Content → List Input → Result Reply Outcome → List Read → Type 0
ReadsCompared content inputs (Ok reply) reads = ReadsFound content inputs reply.wrong reads
ReadsCompared content inputs (Err o) reads = StopsReading content TextMayGoOn inputs o reads

-- the same of a checkpoint
abbrev pub ReadsSaved : Content → List Input → Result Reply Outcome → List Read → Type 0
ReadsSaved content inputs (Ok reply) reads = InputsRead content SaveMayGoOn inputs reads
ReadsSaved content inputs (Err o) reads = ReadsTo content SaveMayGoOn inputs o reads

-- the same of all commands
abbrev pub ReadsAsked : Content → Option Asked → Result Reply Outcome → List Read → Type 0
ReadsAsked content None r reads = reads ≡ []
ReadsAsked content (Some (Run named)) r reads = ReadsOf content (RunMayGoOn content named) (run_inputs named) r reads
ReadsAsked content (Some (Check name)) r reads = ReadsOf content TextMayGoOn (check_inputs name) r reads
ReadsAsked content (Some (Make routes seed)) r reads = reads ≡ []
ReadsAsked content (Some (Steps named)) r reads = ReadsOf content (StepsMayGoOn named) (steps_inputs named) r reads
ReadsAsked content (Some (Same named)) r reads = ReadsCompared content (same_inputs named) r reads
ReadsAsked content (Some (Save named)) r reads = ReadsSaved content (save_inputs named) r reads
ReadsAsked content (Some (Moves named)) r reads = ReadsCompared content (moves_inputs named) r reads
ReadsAsked content (Some (CheckMoves named)) r reads = ReadsCompared content (check_moves_inputs named) r reads
