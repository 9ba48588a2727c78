-- An input that comes in pieces.
use Rattle.std.specs.Prelude.{◌≡◌, ℕ, ◌<◌, List, [], ◌∷◌, ◌++◌, length, Ok, Err}
use Rattle.octet_fields.specs.Field.{until_end}
use Rattle.wire_model.specs.Record.{Record, Fault, record_at, next_record, records_in}
use Rattle.wire_model.specs.declared.rule.Rule.{Rule}
use Rattle.wire_model.specs.declared.rule.Rule.TheVariants.{TooLong}

-- Of the octets fed these records were taken, and the octets left follow them, whatever comes after.
pub record TakesRecords (fed : List ℕ) (taken : List Record) (left : List ℕ) : Type 0 where
  pub whatever : (more : List ℕ) → records_in (fed ++ more) ≡ until_end next_record taken (left ++ more)

-- The octets fed break this rule, whatever comes after.
pub record Breaks (fed : List ℕ) (fault : Fault) : Type 0 where
  pub whatever : (more : List ℕ) → records_in (fed ++ more) ≡ Err fault

-- nothing was fed
abbrev pub StartsSo : Type 0
StartsSo = TakesRecords [] [] []

-- a piece more is fed
abbrev pub FeedsOn : Type 0
FeedsOn = (fed piece left : List ℕ) (taken : List Record) → TakesRecords fed taken left → TakesRecords (fed ++ piece) taken (left ++ piece)

-- a whole record is taken
abbrev pub TakesOn : Type 0
TakesOn = (fed left after : List ℕ) (taken : List Record) (r : Record) → TakesRecords fed taken left → record_at left ≡ Ok (r, after) → TakesRecords fed (taken ++ r ∷ []) after

-- a Length over the limit stays refused
abbrev pub StaysTooLong : Type 0
StaysTooLong = (fed left : List ℕ) (taken : List Record) → TakesRecords fed taken left → record_at left ≡ Err TooLong → Breaks fed (record { number = length taken; rule = TooLong })

-- what is refused stays so if more is fed
abbrev pub StaysBroken : Type 0
StaysBroken = (fed piece : List ℕ) (fault : Fault) → Breaks fed fault → Breaks (fed ++ piece) fault

-- what is left at the end is a header or a body that is cut
abbrev pub EndsCut : Type 0
EndsCut = (fed left : List ℕ) (taken : List Record) (rule : Rule) → TakesRecords fed taken left → 0 < length left → record_at left ≡ Err rule → records_in fed ≡ Err (record { number = length taken; rule = rule })

-- at the end nothing may be left
abbrev pub EndsSo : Type 0
EndsSo = (fed : List ℕ) (taken : List Record) → TakesRecords fed taken [] → records_in fed ≡ Ok taken

-- the records taken are the first of the input's
abbrev pub KeepsFront : Type 0
KeepsFront = (fed left : List ℕ) (taken all : List Record) → TakesRecords fed taken left → records_in fed ≡ Ok all → (others : List Record) × (all ≡ taken ++ others)
