-- A checkpoint of inputs, why there is none, and which reads are made for it.
use Rattle.std.specs.Prelude.{◌≡◌, List, [], ◌∷◌, ◌++◌, ℕ, Option, Some, option_to_list, Result, Ok, Err, IfSome, OnOk}
use Rattle.std.specs.declared.vec.Vec.{Vec}
use Rattle.route_model.specs.Events.{Event}
use Rattle.route_model.specs.Choice.{Candidates}
use Rattle.fib_io.specs.Causes.{Rose}
use Rattle.fib_io.specs.Reads.{AtEnd, PassEnd, PassInTime, Read}
use Rattle.mrt_read.specs.Whole.{HasEvents, IsInputRefused, MayGoOn, pass_end_by}
use Rattle.mrt_read.specs.declared.whole.WholeError.{WholeError}
use Rattle.mrt_read.specs.declared.whole.WholeError.TheVariants as whole
use Rattle.mrt_write.specs.Answers.{WriterAnswers}
use Rattle.mrt_write.specs.declared.write.WriteError.{WriteError}
use Rattle.fib_save.specs.Brings.{Brings}
use Rattle.fib_save.specs.Restores.{Restores}
use Rattle.fib_save.specs.declared.save.SaveError.{SaveError}
use Rattle.fib_save.specs.declared.save.SaveError.TheVariants.{Dump, Updates, Unwritten}

-- what a writer of checkpoints answers to the candidates that the inputs bring; the checkpoint restores them
abbrev pub Written : {A : Type 0} → (List ℕ → Option (List ℕ)) → List ℕ → Option (List ℕ) → Result (Vec ℕ A) WriteError → Type 0
Written content dump updates result = (held : Candidates) × (brings : Brings content dump updates held) × WriterAnswers held result × OnOk result (Restores (brings.load ++ brings.later))

-- why the updates aren't read to their end: the dump is, and theirs is the refusal
abbrev pub UpdatesRefused : (List ℕ → Option (List ℕ)) → List ℕ → Option (List ℕ) → WholeError → Type 0
UpdatesRefused content dump updates error = (load : List Event) × IfSome (content dump) (HasEvents load) × (name : List ℕ) × (updates ≡ Some name) × IfSome (content name) (IsInputRefused error)

-- why the inputs bring nothing
abbrev pub BringsNone : (List ℕ → Option (List ℕ)) → List ℕ → Option (List ℕ) → SaveError → Type 0
BringsNone content dump updates (Dump error) = IfSome (content dump) (IsInputRefused error)
BringsNone content dump updates (Updates error) = UpdatesRefused content dump updates error
BringsNone content dump updates (Unwritten error) = ⊥

-- The octets of the checkpoint; or why an input isn't read to its end, the dump first; or, all being read, why the candidates aren't written.
abbrev pub SaveAnswers : {A : Type 0} → (List ℕ → Option (List ℕ)) → List ℕ → Option (List ℕ) → Result (Vec ℕ A) SaveError → Type 0
SaveAnswers {A = A} content dump updates (Ok v) = Written {A = A} content dump updates (Ok v)
SaveAnswers {A = A} content dump updates (Err (Unwritten error)) = Written {A = A} content dump updates (Err error)
SaveAnswers {A = A} content dump updates (Err (Dump error)) = IfSome (content dump) (IsInputRefused error)
SaveAnswers {A = A} content dump updates (Err (Updates error)) = UpdatesRefused content dump updates error

-- a fault comes only if the count of the input rose, and every other answer leaves all counts
abbrev pub FaultOf : (List ℕ → ℕ) → (List ℕ → ℕ) → List ℕ → WholeError → Type 0
FaultOf before now name whole.Fault = Rose (before name) (now name)
FaultOf before now name whole.TooLarge = now ≡ before
FaultOf before now name (whole.Malformed malformed) = now ≡ before
FaultOf before now name whole.NoMemory = now ≡ before

abbrev pub SaveFaults : {T : Type 0} → (List ℕ → ℕ) → (List ℕ → ℕ) → List ℕ → Option (List ℕ) → Result T SaveError → Type 0
SaveFaults before now dump updates (Ok x) = now ≡ before
SaveFaults before now dump updates (Err (Unwritten error)) = now ≡ before
SaveFaults before now dump updates (Err (Dump error)) = FaultOf before now dump error
SaveFaults before now dump updates (Err (Updates error)) = (name : List ℕ) × (updates ≡ Some name) × FaultOf before now name error

-- ---- reads

-- one pass over an input, of which no read is made once what was read of it before breaks a rule, but that its last record is cut
abbrev pub PassOf : (List ℕ → Option (List ℕ)) → PassEnd → List ℕ → List Read → Type 0
PassOf content end name reads = PassInTime (content name) MayGoOn end name reads

-- the dump, and then the updates, if these are named
abbrev pub input_names : List ℕ → Option (List ℕ) → List (List ℕ)
input_names dump updates = dump ∷ option_to_list updates

-- one pass over each of these inputs, one after another, each to the input's end
abbrev pub AllRead : (List ℕ → Option (List ℕ)) → List (List ℕ) → List Read → Type 0
AllRead content [] reads = reads ≡ []
AllRead content (name ∷ names) reads = (first rest : List Read) × (reads ≡ first ++ rest) × PassOf content AtEnd name first × AllRead content names rest

-- the dump is read to its end, and then the updates up to their refusal
abbrev pub UpdatesStop : (List ℕ → Option (List ℕ)) → List ℕ → Option (List ℕ) → PassEnd → List Read → Type 0
UpdatesStop content dump updates end reads = (first last : List Read) × (reads ≡ first ++ last) × PassOf content AtEnd dump first × (name : List ℕ) × (updates ≡ Some name) × PassOf content end name last

-- The reads of a checkpoint: all of its inputs, before anything is written; or those up to the refusal of an input.
abbrev pub SaveReads : {T : Type 0} → (List ℕ → Option (List ℕ)) → List ℕ → Option (List ℕ) → Result T SaveError → List Read → Type 0
SaveReads content dump updates (Ok x) reads = AllRead content (input_names dump updates) reads
SaveReads content dump updates (Err (Unwritten error)) reads = AllRead content (input_names dump updates) reads
SaveReads content dump updates (Err (Dump error)) reads = PassOf content (pass_end_by error) dump reads
SaveReads content dump updates (Err (Updates error)) reads = UpdatesStop content dump updates (pass_end_by error) reads
