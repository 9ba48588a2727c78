-- Reads that are made of inputs, in their order.
use Rattle.std.specs.Prelude.{◌≡◌, ℕ, ◌+◌, ◌^◌, ◌≤◌, ◌<◌, List, [], ◌∷◌, ◌++◌, take, Option, Some, None, Result, Ok, Err, IfSome, ◌⊎◌}
use Rattle.std.specs.List.{All}
use Rattle.fib_io.specs.declared.InFault.{InFault}
use Rattle.fib_io.specs.declared.InFault.TheVariants.{Failed, NoMemory}
use Rattle.fib_io.specs.declared.pieces.ReadError.{ReadError}
use Rattle.fib_io.specs.declared.pieces.ReadError.TheVariants as read

-- a read that was made: of which name, from which place on in octets from 0, and how many octets it gave; None if it failed
pub record Read : Type 0 where
  pub name : List ℕ
  pub at : ℕ
  pub gave : Option ℕ

abbrev pub read_of : List ℕ → ℕ → Option ℕ → Read
read_of name at gave = record { name = name; at = at; gave = gave }

-- if all reads up to now are known, they are those that were known before, and then such reads
abbrev pub Makes : Option (List Read) → Option (List Read) → (List Read → Type 0) → Type 0
Makes before now Such = IfSome now (λ all. (old made : List Read) × (before ≡ Some old) × (all ≡ old ++ made) × Such made)

-- one read, with this answer; if memory ran out none was made
abbrev pub IsOneRead : List ℕ → ℕ → Result ℕ InFault → List Read → Type 0
IsOneRead name at (Ok n) reads = reads ≡ read_of name at (Some n) ∷ []
IsOneRead name at (Err Failed) reads = reads ≡ read_of name at None ∷ []
IsOneRead name at (Err NoMemory) reads = reads ≡ []

-- ---- passes

-- the reads of this name lead from one place to another: each begins where the last one ended, and gave some octets
abbrev pub ReadsLead : List ℕ → ℕ → ℕ → List Read → Type 0
ReadsLead name from to [] = from ≡ to
ReadsLead name from to (read ∷ reads) = (n : ℕ) × (0 < n) × (read ≡ read_of name from (Some n)) × ReadsLead name (from + n) to reads

-- how a pass over an input ends: at the input's end, after the last octet that is read of an input, where a read failed, or anywhere
pub data PassEnd : Type 0 where
  AtEnd : PassEnd
  PastMost : PassEnd
  AtFault : PassEnd
  Anywhere : PassEnd

-- the reads of a pass after those that gave the octets up to this place: at the input's end one that gave nothing, after the last octet that is read one that gave some, or one that failed
abbrev pub EndsPass : PassEnd → List ℕ → ℕ → List Read → Type 0
EndsPass AtEnd name at reads = reads ≡ read_of name at (Some 0) ∷ []
EndsPass PastMost name at reads = (n : ℕ) × (0 < n) × (at ≡ 2 ^ 36) × (reads ≡ read_of name at (Some n) ∷ [])
EndsPass AtFault name at reads = reads ≡ read_of name at None ∷ []
EndsPass Anywhere name at reads = (reads ≡ []) ⊎ (reads ≡ read_of name at (Some 0) ∷ [])

-- One pass over the input of this name: its reads give the octets in order from octet 0 on, each place once, up to a place that isn't past octet 2^36, and there the pass ends. Nothing follows a read that gave nothing or failed.
pub record Pass (end : PassEnd) (name : List ℕ) (reads : List Read) : Type 0 where
  pub at : ℕ
  pub within : at ≤ 2 ^ 36
  pub front : List Read
  pub leads : ReadsLead name 0 at front
  pub last : List Read
  pub ends : EndsPass end name at last
  pub all : reads ≡ front ++ last

-- ---- passes that stop in time

-- each of these reads begins where the octets before its place are such
abbrev pub BeginBehind : (List ℕ → Type 0) → List ℕ → List Read → Type 0
BeginBehind Such octets reads = All (λ read. Such (take read.at octets)) reads

-- the same of the reads of an input, if its content is known
abbrev pub AreInTime : Option (List ℕ) → (List ℕ → Type 0) → List Read → Type 0
AreInTime content Such reads = IfSome content (λ octets. BeginBehind Such octets reads)

-- One pass over an input, of which no read is made once what was read of it before isn't such.
pub record PassInTime (content : Option (List ℕ)) (Such : List ℕ → Type 0) (end : PassEnd) (name : List ℕ) (reads : List Read) : Type 0 where
  pub pass : Pass end name reads
  pub in_time : AreInTime content Such reads

-- ---- what the calls read

-- a piece takes one read, which gave it, and none if memory ran out
abbrev pub IsPieceRead : List ℕ → ℕ → Result ℕ ReadError → List Read → Type 0
IsPieceRead name at (Ok n) reads = reads ≡ read_of name at (Some n) ∷ []
IsPieceRead name at (Err read.Fault) reads = EndsPass AtFault name at reads
IsPieceRead name at (Err read.TooLarge) reads = EndsPass PastMost name at reads
IsPieceRead name at (Err read.NoMemory) reads = reads ≡ []

-- a refusal ends the pass
abbrev pub end_by : ReadError → PassEnd
end_by read.Fault = AtFault
end_by read.TooLarge = PastMost
end_by read.NoMemory = Anywhere

-- where the pass ends that a whole input takes
abbrev pub whole_end : {T : Type 0} → Result T ReadError → PassEnd
whole_end (Ok x) = AtEnd
whole_end (Err error) = end_by error
