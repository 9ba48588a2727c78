-- How the program ends.
use Rattle.std.specs.Prelude.{◌≡◌, ℕ, ◌<◌, List, take, Option, IfSome}
use Rattle.std.specs.Vec.Iter.{into_iter_items, into_iter_len}
use Rattle.std.specs.declared.vec.IntoIter.{IntoIter}
use Rattle.fib_io.specs.Causes.{Rose}
use Rattle.fib_io.specs.Reads.{Makes, Read}
use Rattle.fib_words.specs.Commands.{command_of}
use Rattle.fib_due.specs.declared.outcome.Outcome.{Outcome}
use Rattle.fib_due.specs.declared.outcome.Outcome.TheVariants.{Done, ReadFault, WriteFault}
use Rattle.fib_due.specs.Due.{due}
use Rattle.fib_due.specs.Ends.{Completes, Meets, OneRose, reads, ReadsFrom, status_of, TellsOf, text_due, Writes, WritesBy}
use Rattle.fib_due.specs.Owned.{IsOf}
use Rattle.fib_due.specs.Passes.{ReadsAt}
use Rattle.fib_save.specs.Restores.{Restores}
use Rattle.fib_due.specs.Proves.{AddsCheckpoint, AddsFrontOfYes, AddsYes, IfRan, IfSaved, IsRun, IsSaving, PrintsYes}
use Rattle.fib_due.specs.Stepped.{FitsSteps}
use Rattle.fib_due.specs.Untold.{FitsSome}

-- the words that are still to come
abbrev pub words_left : {X Z : Type 0} → IntoIter X Z → List X
words_left words = take (into_iter_len words) (into_iter_items words)

-- what inputs, output and standard error say at a moment: what each name holds, how many of its reads failed and which reads were made, and what was written and how many writes failed
pub record Moment : Type 0 where
  pub content : List ℕ → Option (List ℕ)
  pub read_faults : List ℕ → ℕ
  pub out : Option (List ℕ)
  pub out_faults : ℕ
  pub err : Option (List ℕ)
  pub err_faults : ℕ
  pub reads : Option (List Read)

abbrev pub moment : (List ℕ → Option (List ℕ)) → (List ℕ → ℕ) → Option (List Read) → Option (List ℕ) → ℕ → Option (List ℕ) → ℕ → Moment
moment content read_faults made out out_faults err err_faults = record {
  content = content;
  read_faults = read_faults;
  out = out;
  out_faults = out_faults;
  err = err;
  err_faults = err_faults;
  reads = made;
}

-- All that the top call says of these words, between two moments. The outcome is the due one, but for faults and running out of memory, and it is one of these words. Faults have their causes, and if a count rose the outcome says so; if none did, the due outcome comes or memory ran out. The inputs that the words name are read one after another, each in order. No content changes, output has the text due, and standard error has the outcome's line. At Done of a run the output has a text more to which a check says yes, and at Done of a checkpoint one more, which restores what was said.
pub record Ends (words : List (List ℕ)) (old new : Moment) (outcome : Outcome) : Type 0 where
  pub exact : Meets (due words old.content) outcome
  pub own : IsOf (command_of words) outcome
  pub read : ReadsFrom (reads words old.content) old.read_faults new.read_faults outcome
  pub write : WritesBy old.out_faults new.out_faults outcome
  pub out : Writes (text_due (due words old.content)) old.out new.out outcome
  pub err : TellsOf outcome old.err new.err old.err_faults new.err_faults
  pub some : FitsSome old.content (command_of words) old.out new.out outcome
  pub steps : FitsSteps old.content (command_of words) old.out new.out outcome
  pub same : new.content ≡ old.content
  pub risen_input : (name : List ℕ) → old.read_faults name < new.read_faults name → outcome ≡ ReadFault
  pub risen_out : old.out_faults < new.out_faults → outcome ≡ WriteFault
  pub complete : Completes (due words old.content) (OneRose (reads words old.content) old.read_faults new.read_faults) (Rose old.out_faults new.out_faults) outcome
  pub printed : outcome ≡ Done → IsRun (command_of words) → AddsYes old.out new.out
  pub front : outcome ≡ WriteFault → IsRun (command_of words) → AddsFrontOfYes old.out new.out
  pub due_yes : outcome ≡ Done → IfRan (due words old.content) PrintsYes
  pub saves : outcome ≡ Done → IsSaving (command_of words) → AddsCheckpoint old.out new.out
  pub due_saves : outcome ≡ Done → IfSaved (due words old.content) Restores
  pub reads : Makes old.reads new.reads (ReadsAt old.content (command_of words) outcome)

-- So it ends of a command line: with this outcome of some words, which are those of the command line, if it says them.
pub record EndsOf (told : Option (List (List ℕ))) (old new : Moment) (outcome : Outcome) : Type 0 where
  pub words : List (List ℕ)
  pub are_told : IfSome told (λ given. words ≡ given)
  pub ends : Ends words old new outcome

-- and the program's status is that of the outcome
pub record EndsWith (told : Option (List (List ℕ))) (old new : Moment) (status : ℕ) : Type 0 where
  pub outcome : Outcome
  pub ends : EndsOf told old new outcome
  pub is_status : status ≡ status_of outcome
