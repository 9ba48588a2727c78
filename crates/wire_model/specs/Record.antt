-- MRT records (RFC 6396, 2).
use Rattle.std.specs.Prelude.{ℕ, List, [], ◌∷◌, ◌++◌, length, Result, Ok, Err, nat_lt}
use Rattle.octet_fields.specs.Field.{◌>>=◌, refuse, octets_at, number_at, until_end}
use Rattle.wire_model.specs.declared.rule.Rule.{Rule}
use Rattle.wire_model.specs.declared.rule.Rule.TheVariants.{HeaderCut, BodyCut, TooLong}

pub record Record : Type 0 where
  pub kind : ℕ
  pub subtype : ℕ
  pub body : List ℕ

-- the greatest Length that is taken
abbrev pub most_length : ℕ
most_length = 16777216

-- Timestamp, Type, Subtype, Length, and n octets.
unfoldable pub record_at : List ℕ → Result (Record × List ℕ) Rule
record_at octets = do
  whole ← refuse HeaderCut (nat_lt (length octets) 12)
  time ← octets_at HeaderCut 4 octets
  kind ← number_at HeaderCut 2 time.1
  subtype ← number_at HeaderCut 2 kind.1
  len ← number_at HeaderCut 4 subtype.1
  allowed ← refuse TooLong (nat_lt most_length len.0)
  body ← octets_at BodyCut len.0 len.1
  Ok (record { kind = kind.0; subtype = subtype.0; body = body.0 }, body.1)

-- a broken rule with the number of its record in the input, from 0
pub record Fault : Type 0 where
  pub number : ℕ
  pub rule : Rule

abbrev pub at_record : {A : Type 0} → ℕ → Result A Rule → Result A Fault
at_record n (Ok x) = Ok x
at_record n (Err rule) = Err (record { number = n; rule = rule })

-- one record more after those before it
unfoldable pub next_record : List Record → List ℕ → Result (List Record × List ℕ) Fault
next_record before octets = at_record (length before) (record_at octets) >>= λ x. Ok (before ++ x.0 ∷ [], x.1)

-- the records of an input, or the first that breaks a rule
unfoldable pub records_in : List ℕ → Result (List Record) Fault
records_in octets = until_end next_record [] octets
