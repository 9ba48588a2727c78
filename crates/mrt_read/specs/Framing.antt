-- What a framer does with the octets that it is fed.
use Rattle.std.specs.Prelude.{◌≡◌, ℕ, ◌+◌, ◌<◌, ◌≤◌, ◌⊎◌, ◌==◌, if◌then◌else◌, List, [], ◌∷◌, ◌++◌, length, drop, Option, Some, None, option_map, IfSome, IfNone, Result, Ok, Err}
use Rattle.std.specs.Borrow.{MutBor, Fml}
use Rattle.std.specs.Io.BufRead.{Rests}
use Rattle.wire_model.specs.declared.rule.Rule.{Rule}
use Rattle.wire_model.specs.declared.rule.Rule.TheVariants.{HeaderCut, BodyCut, TooLong}
use Rattle.wire_model.specs.Record.{Record, Fault, record_at, records_in}
use Rattle.wire_model.specs.Pieces.{TakesRecords, Breaks}
use Rattle.std.specs.List.{sum_by}
use Rattle.mrt_read.specs.Records.{most_left, record_of, record_size, fault_of}
use Rattle.mrt_read.specs.contracts.framer.Framer.{the_row}
use Rattle.mrt_read.specs.declared.framer.Framed.{Framed}
use Rattle.mrt_read.specs.declared.framer.Framer.{Framer}
use Rattle.mrt_read.specs.declared.framer.Malformed.{Malformed}

-- the octets fed and not taken
abbrev pub framer_left : Framer → List ℕ
framer_left framer = drop framer.at framer.kept.items

-- how many records were taken
abbrev pub framer_count : Framer → ℕ
framer_count framer = framer.number

-- the refusal that is kept
abbrev pub framer_refusal : Framer → Option Fault
framer_refusal framer = option_map fault_of framer.refused

-- Of the octets fed the framer gave these records, and keeps the octets after them or the refusal of what follows.
pub record FramerStands (fed : List ℕ) (taken : List Record) (framer : Framer) : Type 0 where
  pub counts : framer_count framer ≡ length taken
  pub octets : length fed ≡ sum_by record_size taken + length (framer_left framer)
  pub goes_on : IfNone (framer_refusal framer) (TakesRecords fed taken (framer_left framer))
  pub refuses : IfSome (framer_refusal framer) (Breaks fed)

-- the framer was fed this piece more
pub record FramerFeeds (old : Framer) (piece : List ℕ) (new : Framer) : Type 0 where
  pub leaves : framer_left new ≡ framer_left old ++ piece
  pub counts : framer_count new ≡ framer_count old
  pub refuses : framer_refusal new ≡ framer_refusal old
  pub stands : (fed : List ℕ) (taken : List Record) → FramerStands fed taken old → FramerStands (fed ++ piece) taken new

-- the refusal that is kept comes first
abbrev pub refused_or : {A : Type 0} → Option Fault → Result A Fault → Result A Fault
refused_or (Some fault) other = Err fault
refused_or None other = other

-- the record that comes first, or the refusal of its Length; nothing if a header or a body is cut
abbrev pub framer_next_in : ℕ → Result (Record × List ℕ) Rule → Result (Option Record) Fault
framer_next_in number (Ok read) = Ok (Some read.0)
framer_next_in number (Err TooLong) = Err (record { number = number; rule = TooLong })
framer_next_in number (Err rule) = Ok None

-- what comes next
abbrev pub framer_next : Framer → Result (Option Record) Fault
framer_next framer = refused_or (framer_refusal framer) (framer_next_in (framer_count framer) (record_at (framer_left framer)))

-- a refusal is kept, or no whole record and no bad header is left
abbrev pub FramerIsUsedUp : Framer → Type 0
FramerIsUsedUp framer = IfNone (framer_refusal framer) (framer_next framer ≡ Ok None)

-- the octets that were left before the last record was taken
abbrev pub left_before : Framer → List ℕ
left_before framer = drop framer.last framer.kept.items

-- a record was taken, and not yet given back
pub record HasTaken (framer : Framer) : Type 0 where
  pub behind : framer.last < framer.at
  pub counted : 0 < framer_count framer

-- nothing was fed, taken or given back
pub record FramerIsUnchanged (old new : Framer) : Type 0 where
  pub leaves : framer_left new ≡ framer_left old
  pub before : left_before new ≡ left_before old
  pub counts : framer_count new ≡ framer_count old
  pub refuses : framer_refusal new ≡ framer_refusal old
  pub has_taken : HasTaken old → HasTaken new
  pub stands : (fed : List ℕ) (taken : List Record) → FramerStands fed taken old → FramerStands fed taken new

-- the record taken last is the next one again
pub record TakesRecordBack (old new : Framer) : Type 0 where
  pub leaves : framer_left new ≡ left_before old
  pub counts : framer_count old ≡ framer_count new + 1
  pub refuses : framer_refusal new ≡ framer_refusal old

-- a record was taken
pub record TakesRecord (old : Framer) (r : Record) (new : Framer) : Type 0 where
  pub front : record_at (framer_left old) ≡ Ok (r, framer_left new)
  pub shorter : length (framer_left new) < length (framer_left old)
  pub counts : framer_count new ≡ framer_count old + 1
  pub refuses : framer_refusal new ≡ None
  pub has_taken : HasTaken new
  pub before : left_before new ≡ framer_left old
  pub stands : (fed : List ℕ) (taken : List Record) → FramerStands fed taken old → FramerStands fed (taken ++ r ∷ []) new

-- only what is left is kept
abbrev pub KeepsLeftAlone : Framer → Type 0
KeepsLeftAlone framer = framer.kept.items ≡ framer_left framer

-- the records taken were let go
pub record LetsGo (old new : Framer) : Type 0 where
  pub leaves : framer_left new ≡ framer_left old
  pub counts : new.number ≡ old.number
  pub refuses : new.refused ≡ old.refused
  pub alone : KeepsLeftAlone new

-- a header or a body is cut, and nothing was taken; only what is left is kept, and it is less than a header and the longest body
pub record FramerTakesNothing (old new : Framer) : Type 0 where
  pub is_cut : (record_at (framer_left new) ≡ Err HeaderCut) ⊎ (record_at (framer_left new) ≡ Err BodyCut)
  pub few : length (framer_left new) ≤ most_left
  pub alone : KeepsLeftAlone new
  pub leaves : framer_left new ≡ framer_left old
  pub counts : framer_count new ≡ framer_count old
  pub refuses : framer_refusal new ≡ None
  pub used_up : FramerIsUsedUp new
  pub stands : (fed : List ℕ) (taken : List Record) → FramerStands fed taken old → FramerStands fed taken new

-- the refusal is kept
pub record FramerRefuses (old : Framer) (fault : Fault) (new : Framer) : Type 0 where
  pub leaves : framer_left new ≡ framer_left old
  pub counts : framer_count new ≡ framer_count old
  pub refuses : framer_refusal new ≡ Some fault
  pub used_up : FramerIsUsedUp new
  pub breaks : (fed : List ℕ) (taken : List Record) → FramerStands fed taken old → Breaks fed fault
  pub tells : (fed : List ℕ) (taken : List Record) → FramerStands fed taken old → records_in fed ≡ Err fault
  pub stands : (fed : List ℕ) (taken : List Record) → FramerStands fed taken old → FramerStands fed taken new

-- how the framer stands after it gave this
abbrev pub FramerTook : Framer → Result (Option Framed) Malformed → Framer → Type 0
FramerTook old (Ok (Some framed)) new = TakesRecord old (record_of framed) new
FramerTook old (Ok None) new = FramerTakesNothing old new
FramerTook old (Err malformed) new = FramerRefuses old (fault_of malformed) new

-- the framer, once the record that it lent is given back
abbrev pub LendsNext : MutBor Framer → Result (Option Framed) Malformed → Fml
LendsNext framer result = Rests the_row framer (FramerTook framer.now result)

-- at the end of the input nothing may be left
abbrev pub end_in : ℕ → List ℕ → Result (Record × List ℕ) Rule → Result (Unit {0}) Fault
end_in number octets (Ok read) = Ok tt
end_in number octets (Err rule) = if length octets == 0 then Ok tt else Err (record { number = number; rule = rule })

-- what is said of the end of the input
abbrev pub framer_end : Framer → Result (Unit {0}) Fault
framer_end framer = refused_or (framer_refusal framer) (end_in (framer_count framer) (framer_left framer) (record_at (framer_left framer)))

-- all that was fed is these records, or breaks this rule
abbrev pub FramerTells : Framer → Result (Unit {0}) Malformed → Type 0
FramerTells framer (Ok x) = (fed : List ℕ) (taken : List Record) → FramerStands fed taken framer → records_in fed ≡ Ok taken
FramerTells framer (Err malformed) = (fed : List ℕ) (taken : List Record) → FramerStands fed taken framer → records_in fed ≡ Err (fault_of malformed)
