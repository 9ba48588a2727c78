-- An input whose records are read one after another, and of which a piece is read once no whole record is left.
use Rattle.std.specs.Prelude.{◌≡◌, ℕ, ◌+◌, ◌^◌, ◌≤◌, ◌⊎◌, Bool, true, false, List, ◌++◌, length, Option, IfSome, Result, Ok, Err}
use Rattle.std.specs.List.{All}
use Rattle.std.specs.Option.{ForNone}
use Rattle.route_model.specs.Events.{Event}
use Rattle.wire_model.specs.declared.rule.Rule.TheVariants.{HeaderCut, BodyCut}
use Rattle.wire_model.specs.Record.{record_at}
use Rattle.fib_io.specs.Pieces.{IsEnd, IsLarge, octets_from}
use Rattle.fib_io.specs.Reads.{AtEnd, EndsPass, PassEnd, Read, ReadsLead}
use Rattle.mrt_read.specs.Records.{fault_of}
use Rattle.mrt_read.specs.declared.framer.Malformed as code_malformed
use Rattle.mrt_read.specs.declared.reader.Reader.{Reader}
use Rattle.mrt_read.specs.declared.whole.WholeError.{WholeError}
use Rattle.mrt_read.specs.declared.whole.WholeError.TheVariants.{Malformed, NoMemory, Fault, TooLarge}
use Rattle.mrt_read.specs.Standing.{ReaderFeeds, ReaderRefuses, ReaderTells, TakesEvents, reader_left, reader_next, reader_records, reader_refusal}
use Rattle.mrt_read.specs.Whole.{pass_end_by}

-- the records read and the octets left are at most n octets
abbrev pub HoldsWithin : Reader → ℕ → Type 0
HoldsWithin reader n = reader_records reader + length (reader_left reader) ≤ n

-- so are they where the reader isn't refused
abbrev pub HoldsNoMore : Reader → ℕ → Type 0
HoldsNoMore reader n = ForNone (reader_refusal reader) (HoldsWithin reader n)

-- no whole record is left, and no bad header
abbrev pub IsCutNow : Reader → Type 0
IsCutNow reader = (record_at (reader_left reader) ≡ Err HeaderCut) ⊎ (record_at (reader_left reader) ≡ Err BodyCut)

-- after the first octets of an input the reader was fed the n octets that come next, and took no record
pub record FeedsNext (content : Option (List ℕ)) (at : ℕ) (old : Reader) (n : ℕ) (new : Reader) : Type 0 where
  pub piece : List ℕ
  pub size : length piece ≡ n
  pub comes : IfSome content (λ octets. octets_from at octets ≡ piece ++ octets_from (at + n) octets)
  pub feeds : ReaderFeeds old piece new

-- the same, up to this place
abbrev pub FeedsUpTo : Option (List ℕ) → ℕ → Reader → ℕ → Reader → Type 0
FeedsUpTo content at old to new = (n : ℕ) × (to ≡ at + n) × FeedsNext content at old n new

-- it was fed up to its next record, and then took that one
abbrev pub TakesNext : Option (List ℕ) → ℕ → Reader → List Event → ℕ → Reader → Type 0
TakesNext content at old events to new = (fed : Reader) × FeedsUpTo content at old to fed × TakesEvents fed events new

-- it was fed up to the input's end, where all that was fed is whole records that break no rule
abbrev pub EndsWhole : Option (List ℕ) → ℕ → Reader → ℕ → Reader → Type 0
EndsWhole content at old to new = FeedsUpTo content at old to new × IfSome content (λ octets. IsEnd octets to) × ReaderTells new (Ok tt)

-- what is left once it was fed breaks a rule, whatever comes behind it; or it does so at the input's end
abbrev pub BreaksHere : Option (List ℕ) → ℕ → Reader → code_malformed.Malformed → Reader → Type 0
BreaksHere content to fed malformed new = ((reader_next fed ≡ Err (fault_of malformed)) × ReaderRefuses fed (fault_of malformed) new) ⊎ (IfSome content (λ octets. IsEnd octets to) × ReaderTells fed (Err malformed))

-- why no record comes next: behind what it was fed a rule is broken, or there is more than is read of an input; a fault of reading and want of memory can come at any place
abbrev pub IsNextRefused : Option (List ℕ) → ℕ → Reader → WholeError → Reader → Type 0
IsNextRefused content at old (Malformed malformed) new = (to : ℕ) × (fed : Reader) × FeedsUpTo content at old to fed × BreaksHere content to fed malformed new
IsNextRefused content at old TooLarge new = (to : ℕ) × (fed : Reader) × FeedsUpTo content at old to fed × IsCutNow fed × IfSome content (λ octets. IsLarge octets to)
IsNextRefused content at old NoMemory new = Unit {0}
IsNextRefused content at old Fault new = Unit {0}

-- what became of a reader that was to take the next record of an input: true with its events, or false at the input's end
abbrev pub IsNext : Option (List ℕ) → ℕ → Reader → Result Bool WholeError → List Event → ℕ → Reader → Type 0
IsNext content at old (Ok true) events to new = TakesNext content at old events to new
IsNext content at old (Ok false) events to new = EndsWhole content at old to new
IsNext content at old (Err error) events to new = IsNextRefused content at old error new

-- ---- reads

-- the last reads of a pass, from this place on
pub record PassFrom (from : ℕ) (end : PassEnd) (name : List ℕ) (reads : List Read) : Type 0 where
  pub to : ℕ
  pub within : to ≤ 2 ^ 36
  pub front : List Read
  pub leads : ReadsLead name from to front
  pub last : List Read
  pub ends : EndsPass end name to last
  pub all : reads ≡ front ++ last

-- each of these reads begins where the reader, fed all octets before it, has no whole record left
abbrev pub BeginCut : Option (List ℕ) → ℕ → Reader → List Read → Type 0
BeginCut content at old reads = All (λ read. (fed : Reader) × FeedsUpTo content at old read.at fed × IsCutNow fed) reads

-- the reads that were made for a record, or up to the end of the pass
abbrev pub NextLeads : List ℕ → ℕ → Result Bool WholeError → ℕ → List Read → Type 0
NextLeads name at (Ok true) to reads = ReadsLead name at to reads
NextLeads name at (Ok false) to reads = PassFrom at AtEnd name reads
NextLeads name at (Err error) to reads = PassFrom at (pass_end_by error) name reads
