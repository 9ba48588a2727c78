-- What all records of an input say, and why it isn't given.
use Rattle.std.specs.Prelude.{◌≡◌, ℕ, ◌^◌, ◌<◌, ◌≤◌, List, length, true, false, not, ◌&&◌, Result, Ok, Err}
use Rattle.route_model.specs.Events.{Event}
use Rattle.wire_model.specs.Input.{Progress, Stopped, input}
use Rattle.fib_io.specs.Causes.{Rose}
use Rattle.fib_io.specs.Pieces.{octets_read}
use Rattle.fib_io.specs.Reads.{PassEnd, AtEnd, AtFault, PastMost, Anywhere}
use Rattle.fib_io.specs.declared.pieces.ReadError.{ReadError}
use Rattle.fib_io.specs.declared.pieces.ReadError.TheVariants as pieces
use Rattle.mrt_read.specs.declared.framer.Malformed as code_malformed
use Rattle.mrt_read.specs.declared.reader.EventsError.{EventsError}
use Rattle.mrt_read.specs.declared.reader.EventsError.TheVariants as read
use Rattle.mrt_read.specs.Cuts.{is_cut, is_small}
use Rattle.mrt_read.specs.declared.whole.WholeError.{WholeError}
use Rattle.mrt_read.specs.declared.whole.WholeError.TheVariants.{Malformed, NoMemory, Fault, TooLarge}

-- the octets are few enough for an input, none of their records breaks a rule, and these are the events of all
pub record HasEvents (events : List Event) (octets : List ℕ) : Type 0 where
  pub small : length octets ≤ 2 ^ 36
  pub read : Progress
  pub all : input (octets_read octets) ≡ Ok read
  pub are : read.events ≡ events

-- The first record that breaks a rule has this number and breaks this rule. If there are more octets than are read, it isn't cut at the end of those.
pub record IsBad (malformed : code_malformed.Malformed) (octets : List ℕ) : Type 0 where
  pub stopped : Stopped
  pub stops : input (octets_read octets) ≡ Err stopped
  pub number : malformed.number ≡ stopped.read.records
  pub rule : malformed.rule ≡ stopped.rule
  pub whole : (not (is_small octets) && is_cut (octets_read octets) stopped.read.records) ≡ false

-- what was read of these octets breaks no rule but that their last record is cut
abbrev pub EndsOrIsCut : List ℕ → Result Progress Stopped → Type 0
EndsOrIsCut octets (Ok read) = Unit {0}
EndsOrIsCut octets (Err stopped) = is_cut octets stopped.read.records ≡ true

-- octets after which an input may be read on: they break no rule but that their last record is cut
abbrev pub MayGoOn : List ℕ → Type 0
MayGoOn octets = EndsOrIsCut octets (input octets)

-- there are more octets than are read, and these break no rule but that their last record is cut
pub record IsTooLarge (octets : List ℕ) : Type 0 where
  pub large : 2 ^ 36 < length octets
  pub ends : MayGoOn (octets_read octets)

-- why no events are given of these octets; a fault of reading and running out of memory can come of any
abbrev pub IsInputRefused : WholeError → List ℕ → Type 0
IsInputRefused (Malformed malformed) octets = IsBad malformed octets
IsInputRefused TooLarge octets = IsTooLarge octets
IsInputRefused NoMemory octets = Unit {0}
IsInputRefused Fault octets = Unit {0}

-- a fault comes only if the count of the name rose, and every other answer leaves all counts
abbrev pub FaultRose : {T : Type 0} → (List ℕ → ℕ) → (List ℕ → ℕ) → List ℕ → Result T WholeError → Type 0
FaultRose before now name (Err Fault) = Rose (before name) (now name)
FaultRose before now name result = now ≡ before

-- where the pass over an input ends that isn't read to its end
abbrev pub pass_end_by : WholeError → PassEnd
pass_end_by Fault = AtFault
pass_end_by TooLarge = PastMost
pass_end_by (Malformed malformed) = Anywhere
pass_end_by NoMemory = Anywhere

-- where the pass over the input ends
abbrev pub end_of : {T : Type 0} → Result T WholeError → PassEnd
end_of (Ok x) = AtEnd
end_of (Err error) = pass_end_by error

-- a refusal of what is read
abbrev pub of_input : ReadError → WholeError
of_input pieces.Fault = Fault
of_input pieces.TooLarge = TooLarge
of_input pieces.NoMemory = NoMemory

-- a refusal of a reader
abbrev pub of_read : EventsError → WholeError
of_read (read.Malformed malformed) = Malformed malformed
of_read read.NoMemory = NoMemory
