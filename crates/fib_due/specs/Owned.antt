-- Which outcomes a command can have, whether or not the contents of its inputs are known.
use Rattle.std.specs.Prelude.{◌≡◌, ℕ, Option, Some, None, IfSome, IsSome, Result, Ok, Err}
use Rattle.fib_words.specs.Commands.{Asked, Run, Check, Make, Steps, Same, Save, Moves, CheckMoves}
use Rattle.fib_due.specs.declared.outcome.Which.{Which}
use Rattle.fib_due.specs.declared.outcome.Which.TheVariants.{Asks, Vrps, Dump, Updates, Printed, Script, Text}
use Rattle.fib_due.specs.declared.outcome.Outcome.{Outcome}
use Rattle.fib_due.specs.declared.outcome.Outcome.TheVariants.{Done, CheckNo, Differ, MovesNo, Usage, ReadFault, WriteFault, NoMemory, TooLarge, Malformed, HopsFull, TrieFull, BadLine, PeersFull, PathTooLong}
use Rattle.fib_due.specs.declared.reply.Reply as code_reply
use Rattle.fib_due.specs.declared.reply.Wrong as code_wrong
use Rattle.fib_due.specs.declared.reply.Wrong.TheVariants as wrong

-- the command names this input, or makes it
abbrev pub HasInput : Asked → Which → Type 0
HasInput (Run named) Asks = IsSome named.asks
HasInput (Run named) Vrps = IsSome named.vrps
HasInput (Run named) Dump = Unit {0}
HasInput (Run named) Updates = IsSome named.updates
HasInput (Run named) Printed = ⊥
HasInput (Run named) Script = ⊥
HasInput (Run named) (Text n) = ⊥
HasInput (Check name) Asks = ⊥
HasInput (Check name) Vrps = ⊥
HasInput (Check name) Dump = ⊥
HasInput (Check name) Updates = ⊥
HasInput (Check name) Printed = Unit {0}
HasInput (Check name) Script = ⊥
HasInput (Check name) (Text n) = ⊥
HasInput (Make routes seed) Asks = ⊥
HasInput (Make routes seed) Vrps = ⊥
HasInput (Make routes seed) Dump = Unit {0}
HasInput (Make routes seed) Updates = Unit {0}
HasInput (Make routes seed) Printed = ⊥
HasInput (Make routes seed) Script = ⊥
HasInput (Make routes seed) (Text n) = ⊥
HasInput (Steps named) Asks = ⊥
HasInput (Steps named) Vrps = ⊥
HasInput (Steps named) Dump = Unit {0}
HasInput (Steps named) Updates = Unit {0}
HasInput (Steps named) Printed = ⊥
HasInput (Steps named) Script = Unit {0}
HasInput (Steps named) (Text n) = ⊥
HasInput (Same named) Asks = ⊥
HasInput (Same named) Vrps = ⊥
HasInput (Same named) Dump = ⊥
HasInput (Same named) Updates = ⊥
HasInput (Same named) Printed = ⊥
HasInput (Same named) Script = ⊥
HasInput (Same named) (Text n) = Unit {0}
HasInput (Save named) Asks = ⊥
HasInput (Save named) Vrps = ⊥
HasInput (Save named) Dump = Unit {0}
HasInput (Save named) Updates = IsSome named.updates
HasInput (Save named) Printed = ⊥
HasInput (Save named) Script = ⊥
HasInput (Save named) (Text n) = ⊥
HasInput (Moves named) Asks = ⊥
HasInput (Moves named) Vrps = ⊥
HasInput (Moves named) Dump = ⊥
HasInput (Moves named) Updates = ⊥
HasInput (Moves named) Printed = ⊥
HasInput (Moves named) Script = ⊥
HasInput (Moves named) (Text n) = Unit {0}
HasInput (CheckMoves named) Asks = ⊥
HasInput (CheckMoves named) Vrps = ⊥
HasInput (CheckMoves named) Dump = ⊥
HasInput (CheckMoves named) Updates = ⊥
HasInput (CheckMoves named) Printed = ⊥
HasInput (CheckMoves named) Script = ⊥
HasInput (CheckMoves named) (Text n) = Unit {0}

-- the input is one of lines
abbrev pub HasLines : Which → Type 0
HasLines Asks = Unit {0}
HasLines Vrps = Unit {0}
HasLines Dump = ⊥
HasLines Updates = ⊥
HasLines Printed = Unit {0}
HasLines Script = Unit {0}
HasLines (Text n) = Unit {0}

-- the input is one of records
abbrev pub HasRecords : Which → Type 0
HasRecords Asks = ⊥
HasRecords Vrps = ⊥
HasRecords Dump = Unit {0}
HasRecords Updates = Unit {0}
HasRecords Printed = ⊥
HasRecords Script = ⊥
HasRecords (Text n) = ⊥

-- the input has events of this number: those of a dump are the load, event 0
abbrev pub HasEvent : Which → ℕ → Type 0
HasEvent Asks n = ⊥
HasEvent Vrps n = ⊥
HasEvent Dump n = n ≡ 0
HasEvent Updates n = Unit {0}
HasEvent Printed n = ⊥
HasEvent Script n = ⊥
HasEvent (Text m) n = ⊥

-- a refusal of this input, a fault of reading, or out of memory
abbrev pub StopsAt : Which → Outcome → Type 0
StopsAt which ReadFault = Unit {0}
StopsAt which NoMemory = Unit {0}
StopsAt which (TooLarge input) = input ≡ which
StopsAt which (Malformed input number rule) = (input ≡ which) × HasRecords which
StopsAt which (HopsFull event) = HasEvent which event
StopsAt which (TrieFull event need have arena) = HasEvent which event
StopsAt which (BadLine input line why) = (input ≡ which) × HasLines which
StopsAt which outcome = ⊥

-- the same of an input that the command names
abbrev pub StopsIn : Asked → Outcome → Type 0
StopsIn asked outcome = (which : Which) × HasInput asked which × StopsAt which outcome

-- a command that says what is wrong with a text
abbrev pub JudgesText : Asked → Type 0
JudgesText (Run named) = ⊥
JudgesText (Check name) = Unit {0}
JudgesText (Make routes seed) = ⊥
JudgesText (Steps named) = ⊥
JudgesText (Same named) = Unit {0}
JudgesText (Save named) = ⊥
JudgesText (Moves named) = Unit {0}
JudgesText (CheckMoves named) = Unit {0}

-- a comparison of texts
abbrev pub IsSame : Asked → Type 0
IsSame (Run named) = ⊥
IsSame (Check name) = ⊥
IsSame (Make routes seed) = ⊥
IsSame (Steps named) = ⊥
IsSame (Same named) = Unit {0}
IsSame (Save named) = ⊥
IsSame (Moves named) = ⊥
IsSame (CheckMoves named) = ⊥

-- a checkpoint
abbrev pub IsSave : Asked → Type 0
IsSave (Run named) = ⊥
IsSave (Check name) = ⊥
IsSave (Make routes seed) = ⊥
IsSave (Steps named) = ⊥
IsSave (Same named) = ⊥
IsSave (Save named) = Unit {0}
IsSave (Moves named) = ⊥
IsSave (CheckMoves named) = ⊥

-- a check of what a router was told to change
abbrev pub IsCheckMoves : Asked → Type 0
IsCheckMoves (Run named) = ⊥
IsCheckMoves (Check name) = ⊥
IsCheckMoves (Make routes seed) = ⊥
IsCheckMoves (Steps named) = ⊥
IsCheckMoves (Same named) = ⊥
IsCheckMoves (Save named) = ⊥
IsCheckMoves (Moves named) = ⊥
IsCheckMoves (CheckMoves named) = Unit {0}

-- The outcome is one of these words. Words that are no command have Usage alone, and no command has it; a check, a comparison and a router's changes alone say no to a text, a check of a router's changes alone says no to them, a comparison alone that texts differ, and a checkpoint alone that there are too many peers or that a path is too long; a refusal names an input that the command names or makes. Memory may run out with any.
abbrev pub IsOf : Option Asked → Outcome → Type 0
IsOf None Usage = Unit {0}
IsOf None NoMemory = Unit {0}
IsOf None outcome = ⊥
IsOf (Some asked) Done = Unit {0}
IsOf (Some asked) (CheckNo x) = JudgesText asked
IsOf (Some asked) (Differ x) = IsSame asked
IsOf (Some asked) (MovesNo x) = IsCheckMoves asked
IsOf (Some asked) Usage = ⊥
IsOf (Some asked) WriteFault = Unit {0}
IsOf (Some asked) NoMemory = Unit {0}
IsOf (Some asked) (PeersFull peers) = IsSave asked
IsOf (Some asked) (PathTooLong p n) = IsSave asked
IsOf (Some asked) outcome = StopsIn asked outcome

-- what is wrong is wrong with a text
abbrev pub IsNo : code_wrong.Wrong → Type 0
IsNo (wrong.No x) = Unit {0}
IsNo (wrong.Differ d) = ⊥
IsNo (wrong.MovesNo w) = ⊥

-- what is wrong is wrong with a text, or between two of them
abbrev pub IsOfTexts : code_wrong.Wrong → Type 0
IsOfTexts (wrong.No x) = Unit {0}
IsOfTexts (wrong.Differ d) = Unit {0}
IsOfTexts (wrong.MovesNo w) = ⊥

-- what is wrong is wrong with a text, or with what a router was told to change
abbrev pub IsOfMoves : code_wrong.Wrong → Type 0
IsOfMoves (wrong.No x) = Unit {0}
IsOfMoves (wrong.Differ d) = ⊥
IsOfMoves (wrong.MovesNo w) = Unit {0}

-- the words are a command, and what is wrong is what it can find wrong, whatever its inputs
abbrev pub Owns : Option Asked → code_reply.Reply → Type 0
Owns None reply = ⊥
Owns (Some (Run named)) reply = reply.wrong ≡ None
Owns (Some (Check name)) reply = IfSome reply.wrong IsNo
Owns (Some (Make routes seed)) reply = reply.wrong ≡ None
Owns (Some (Steps named)) reply = reply.wrong ≡ None
Owns (Some (Same named)) reply = IfSome reply.wrong IsOfTexts
Owns (Some (Save named)) reply = reply.wrong ≡ None
Owns (Some (Moves named)) reply = IfSome reply.wrong IsNo
Owns (Some (CheckMoves named)) reply = IfSome reply.wrong IsOfMoves

-- a call was stopped at this input
abbrev pub StoppedAt : {X : Type 0} → Which → Result X Outcome → Type 0
StoppedAt which (Ok x) = ⊥
StoppedAt which (Err outcome) = StopsAt which outcome
