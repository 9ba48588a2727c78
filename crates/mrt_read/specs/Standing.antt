-- How a reader stands in an input that comes in pieces.
use Rattle.std.specs.Prelude.{◌≡◌, ℕ, ◌+◌, ◌<◌, ◌⊎◌, Bool, true, false, List, ◌++◌, length, map, Option, Some, None, option_map, IfSome, IfNone, Result, Ok, Err}
use Rattle.std.specs.declared.vec.Vec.{Vec}
use Rattle.route_model.specs.Events.{Peer, Event}
use Rattle.octet_fields.specs.Field.{◌>>=◌}
use Rattle.wire_model.specs.declared.rule.Rule.{Rule}
use Rattle.wire_model.specs.declared.rule.Rule.TheVariants.{HeaderCut, BodyCut, TooLong}
use Rattle.wire_model.specs.Record.{Record, Fault, record_at, at_record}
use Rattle.wire_model.specs.Input.{Progress, record_in, input}
use Rattle.wire_model.specs.Reading.{ReadsEvents, ReadsNo}
use Rattle.mrt_read.specs.Framing as framing
use Rattle.mrt_read.specs.Records.{fault_of}
use Rattle.mrt_read.specs.declared.framer.Malformed as code_malformed
use Rattle.fib_prefix.specs.Views.{event_as}
use Rattle.fib_prefix.specs.declared.event.Event as code_event
use Rattle.mrt_records.specs.Views.{peers_in}
use Rattle.mrt_read.specs.Views.{said_events}
use Rattle.mrt_read.specs.declared.reader.Reader.{Reader}
use Rattle.mrt_read.specs.declared.reader.EventsError.{EventsError}
use Rattle.mrt_read.specs.declared.reader.EventsError.TheVariants.{Malformed, NoMemory}

-- the octets fed that no whole record has used up
abbrev pub reader_left : Reader → List ℕ
reader_left reader = framing.framer_left reader.framer

-- the latest peer table
abbrev pub peers : Reader → Option (List Peer)
peers reader = peers_in reader.table

-- how many whole records were read, skipped ones too, the refused one not
abbrev pub reader_records : Reader → ℕ
reader_records reader = reader.records

-- how many of them were skipped
abbrev pub reader_skipped : Reader → ℕ
reader_skipped reader = reader.skipped

-- how many messages were treated as withdrawals
abbrev pub reader_treated : Reader → ℕ
reader_treated reader = reader.treated

-- the refusal that is kept
abbrev pub reader_refusal : Reader → Option Fault
reader_refusal reader = option_map fault_of reader.refused

-- Of the octets fed this much was read, and the reader keeps the octets after it, or the rule that the next record breaks.
pub record ReaderStands (fed : List ℕ) (read : Progress) (reader : Reader) : Type 0 where
  pub peers : read.peers ≡ peers reader
  pub records : read.records ≡ reader_records reader
  pub skipped : read.skipped ≡ reader_skipped reader
  pub treated : read.treated ≡ reader_treated reader
  pub goes_on : IfNone (reader_refusal reader) (ReadsEvents fed read (reader_left reader))
  pub refuses : IfSome (reader_refusal reader) (λ fault. (fault.number ≡ read.records) × ReadsNo fed (record { read = read; rule = fault.rule }))

-- what the first record says after this peer table, or the rule that it breaks; nothing if a header or a body is cut
abbrev pub reader_next_in : ℕ → Option (List Peer) → Result (Record × List ℕ) Rule → Result (Option (List Event)) Fault
reader_next_in number table (Ok read) = at_record number (record_in table read.0 >>= λ told. Ok (Some (said_events told.1)))
reader_next_in number table (Err TooLong) = Err (record { number = number; rule = TooLong })
reader_next_in number table (Err rule) = Ok None

-- what comes next; the refusal that is kept comes first
abbrev pub reader_next : Reader → Result (Option (List Event)) Fault
reader_next reader = framing.refused_or (reader_refusal reader) (reader_next_in (reader_records reader) (peers reader) (record_at (reader_left reader)))

-- the answer is this, but for running out of memory
abbrev pub ReaderAnswers : {A : Type 0} → Result (Option (Vec code_event.Event A)) EventsError → Result (Option (List Event)) Fault → Type 0
ReaderAnswers (Ok told) due = due ≡ Ok (option_map (λ events. map event_as events.items) told)
ReaderAnswers (Err (Malformed malformed)) due = due ≡ Err (fault_of malformed)
ReaderAnswers (Err NoMemory) due = Unit {0}

-- the same if the events take the place of what stood in a list: true if a record was read, which they are of
abbrev pub ReaderFills : Result Bool EventsError → List Event → Result (Option (List Event)) Fault → Type 0
ReaderFills (Ok true) events due = due ≡ Ok (Some events)
ReaderFills (Ok false) events due = due ≡ Ok None
ReaderFills (Err (Malformed malformed)) events due = due ≡ Err (fault_of malformed)
ReaderFills (Err NoMemory) events due = Unit {0}

-- a refusal is kept, or no whole record and no bad header is left
abbrev pub ReaderIsUsedUp : Reader → Type 0
ReaderIsUsedUp reader = IfNone (reader_refusal reader) (reader_next reader ≡ Ok None)

-- the reader was fed this piece more
pub record ReaderFeeds (old : Reader) (piece : List ℕ) (new : Reader) : Type 0 where
  pub leaves : reader_left new ≡ reader_left old ++ piece
  pub refuses : reader_refusal new ≡ reader_refusal old
  pub peers : peers new ≡ peers old
  pub records : reader_records new ≡ reader_records old
  pub skipped : reader_skipped new ≡ reader_skipped old
  pub treated : reader_treated new ≡ reader_treated old
  pub stands : (fed : List ℕ) (read : Progress) → ReaderStands fed read old → ReaderStands (fed ++ piece) read new

-- nothing was fed or read
pub record ReaderIsUnchanged (old new : Reader) : Type 0 where
  pub leaves : reader_left new ≡ reader_left old
  pub refuses : reader_refusal new ≡ reader_refusal old
  pub peers : peers new ≡ peers old
  pub records : reader_records new ≡ reader_records old
  pub skipped : reader_skipped new ≡ reader_skipped old
  pub treated : reader_treated new ≡ reader_treated old
  pub stands : (fed : List ℕ) (read : Progress) → ReaderStands fed read old → ReaderStands fed read new

-- one record more was read, with these events
pub record TakesEvents (old : Reader) (events : List Event) (new : Reader) : Type 0 where
  pub front : (r : Record) × (record_at (reader_left old) ≡ Ok (r, reader_left new))
  pub shorter : length (reader_left new) < length (reader_left old)
  pub counts : reader_records new ≡ reader_records old + 1
  pub refuses : reader_refusal new ≡ None
  pub stands : (fed : List ℕ) (read : Progress) → ReaderStands fed read old → ReaderStands fed (record { peers = peers new; events = read.events ++ events; records = reader_records new; skipped = reader_skipped new; treated = reader_treated new }) new

-- a header or a body is cut, and nothing was read
pub record ReaderTakesNothing (old new : Reader) : Type 0 where
  pub is_cut : (record_at (reader_left new) ≡ Err HeaderCut) ⊎ (record_at (reader_left new) ≡ Err BodyCut)
  pub leaves : reader_left new ≡ reader_left old
  pub refuses : reader_refusal new ≡ None
  pub used_up : ReaderIsUsedUp new
  pub peers : peers new ≡ peers old
  pub records : reader_records new ≡ reader_records old
  pub skipped : reader_skipped new ≡ reader_skipped old
  pub treated : reader_treated new ≡ reader_treated old
  pub stands : (fed : List ℕ) (read : Progress) → ReaderStands fed read old → ReaderStands fed read new

-- what is read of an input that breaks this rule
abbrev pub IsFault : List ℕ → Progress → Fault → Type 0
IsFault fed read fault = (fault.number ≡ read.records) × (input fed ≡ Err (record { read = read; rule = fault.rule }))

-- the refusal is kept
pub record ReaderRefuses (old : Reader) (fault : Fault) (new : Reader) : Type 0 where
  pub refuses : reader_refusal new ≡ Some fault
  pub peers : peers new ≡ peers old
  pub records : reader_records new ≡ reader_records old
  pub skipped : reader_skipped new ≡ reader_skipped old
  pub treated : reader_treated new ≡ reader_treated old
  pub tells : (fed : List ℕ) (read : Progress) → ReaderStands fed read old → IsFault fed read fault
  pub stands : (fed : List ℕ) (read : Progress) → ReaderStands fed read old → ReaderStands fed read new

-- how the reader stands after it gave nothing for this reason
abbrev pub Failed : Reader → EventsError → Reader → Type 0
Failed old (Malformed malformed) new = ReaderRefuses old (fault_of malformed) new
Failed old NoMemory new = ReaderIsUnchanged old new

-- how the reader stands after it filled a list with these events
abbrev pub ReaderFilled : Reader → Result Bool EventsError → List Event → Reader → Type 0
ReaderFilled old (Ok true) events new = TakesEvents old events new
ReaderFilled old (Ok false) events new = ReaderTakesNothing old new
ReaderFilled old (Err error) events new = Failed old error new

-- how the reader stands after it gave this
abbrev pub ReaderTook : {A : Type 0} → Reader → Result (Option (Vec code_event.Event A)) EventsError → Reader → Type 0
ReaderTook old (Ok (Some events)) new = TakesEvents old (map event_as events.items) new
ReaderTook old (Ok None) new = ReaderTakesNothing old new
ReaderTook old (Err error) new = Failed old error new

-- what is said of the end of the input; the refusal that is kept comes first
abbrev pub reader_end : Reader → Result (Unit {0}) Fault
reader_end reader = framing.refused_or (reader_refusal reader) (framing.end_in (reader_records reader) (reader_left reader) (record_at (reader_left reader)))

-- what all that was fed says, or where it breaks a rule
abbrev pub ReaderTells : Reader → Result (Unit {0}) code_malformed.Malformed → Type 0
ReaderTells reader (Ok x) = (fed : List ℕ) (read : Progress) → ReaderStands fed read reader → input fed ≡ Ok read
ReaderTells reader (Err malformed) = (fed : List ℕ) (read : Progress) → ReaderStands fed read reader → IsFault fed read (fault_of malformed)
