-- An input that comes in pieces, with all that it says.
use Rattle.std.specs.Prelude.{◌≡◌, ℕ, ◌<◌, List, [], ◌++◌, length, Option, Ok, Err}
use Rattle.route_model.specs.Events.{Peer}
use Rattle.octet_fields.specs.Field.{until_end}
use Rattle.wire_model.specs.declared.rule.Rule.{Rule}
use Rattle.wire_model.specs.declared.rule.Rule.TheVariants.{TooLong}
use Rattle.wire_model.specs.Record.{Record, record_at}
use Rattle.wire_model.specs.Update.{Said}
use Rattle.wire_model.specs.Input.{Progress, Stopped, start, record_in, counted, read_record, input}

-- Of the octets fed this much was read, and the octets left follow, whatever comes after.
pub record ReadsEvents (fed : List ℕ) (read : Progress) (left : List ℕ) : Type 0 where
  pub whatever : (more : List ℕ) → input (fed ++ more) ≡ until_end read_record read (left ++ more)

-- Of the octets fed this much was read, and the next record breaks a rule, whatever comes after.
pub record ReadsNo (fed : List ℕ) (stopped : Stopped) : Type 0 where
  pub whatever : (more : List ℕ) → input (fed ++ more) ≡ Err stopped

-- nothing was fed
abbrev pub ReadingStarts : Type 0
ReadingStarts = ReadsEvents [] start []

-- a piece more is fed
abbrev pub ReadingFeeds : Type 0
ReadingFeeds = (fed piece left : List ℕ) (read : Progress) → ReadsEvents fed read left → ReadsEvents (fed ++ piece) read (left ++ piece)

-- a whole record is read
abbrev pub ReadingTakes : Type 0
ReadingTakes = (fed left after : List ℕ) (read : Progress) (r : Record) (told : Option (List Peer) × Option Said) → ReadsEvents fed read left → record_at left ≡ Ok (r, after) → record_in read.peers r ≡ Ok told → ReadsEvents fed (counted read told) after

-- a whole record breaks a rule
abbrev pub ReadingBreaks : Type 0
ReadingBreaks = (fed left after : List ℕ) (read : Progress) (r : Record) (rule : Rule) → ReadsEvents fed read left → record_at left ≡ Ok (r, after) → record_in read.peers r ≡ Err rule → ReadsNo fed (record { read = read; rule = rule })

-- a Length over the limit stays refused
abbrev pub ReadingTooLong : Type 0
ReadingTooLong = (fed left : List ℕ) (read : Progress) → ReadsEvents fed read left → record_at left ≡ Err TooLong → ReadsNo fed (record { read = read; rule = TooLong })

-- what is refused stays so if more is fed
abbrev pub ReadingStays : Type 0
ReadingStays = (fed piece : List ℕ) (stopped : Stopped) → ReadsNo fed stopped → ReadsNo (fed ++ piece) stopped

-- what is left at the end is a header or a body that is cut
abbrev pub ReadingEndsCut : Type 0
ReadingEndsCut = (fed left : List ℕ) (read : Progress) (rule : Rule) → ReadsEvents fed read left → 0 < length left → record_at left ≡ Err rule → input fed ≡ Err (record { read = read; rule = rule })

-- at the end nothing may be left
abbrev pub ReadingEnds : Type 0
ReadingEnds = (fed : List ℕ) (read : Progress) → ReadsEvents fed read [] → input fed ≡ Ok read
