-- AS_PATH (RFC 4271, 4.3; RFC 5065, 3): how long a path is (RFC 4271, 9.1.2.2 a; RFC 5065, 5.3), and in which AS the route originates (RFC 6811, 2).
use Rattle.std.specs.Prelude.{ℕ, ◌+◌, ◌-◌, ◌*◌, List, length, drop, Option, Some, None, Result, Ok, Bool, nat_lt, not, ◌==◌, ◌||◌, ◌&&◌, if◌then◌else◌}
use Rattle.table_model.specs.Bits.{number}
use Rattle.octet_fields.specs.Field.{◌>>=◌, refuse, octet_at, octets_at, until_end}
use Rattle.wire_model.specs.declared.rule.Rule.{Rule}
use Rattle.wire_model.specs.declared.rule.Rule.TheVariants.{AttributeValue}

-- what an AS_PATH says of a route: how long the path is, and the AS in which the route originates, or none if the path doesn't give it
pub record Path : Type 0 where
  pub length : ℕ
  pub origin : Option ℕ

-- a path without segments
abbrev pub no_path : Path
no_path = record { length = 0; origin = None }

-- What a segment counts: an AS_SEQUENCE (2) each of its AS numbers, an AS_SET (1) that isn't empty one; confederation segments (3 and 4) nothing.
abbrev pub segment_length : ℕ → ℕ → ℕ
segment_length kind count = if kind == 2 then count else (if kind == 1 then (if count == 0 then 0 else 1) else 0)

-- The origin if this segment is the path's last, its AS numbers of n octets each (RFC 6811, 2): the last AS number of an AS_SEQUENCE (2) that isn't empty, none for any other.
abbrev pub segment_origin : ℕ → ℕ → List ℕ → Option ℕ
segment_origin size kind numbers = if kind == 2 && not (length numbers == 0) then Some (number (drop (length numbers - size) numbers)) else None

-- type, count, AS numbers of n octets each; the length so far grows by what the segment counts, and of the segments so far this one is the last
unfoldable pub segment_at : ℕ → Path → List ℕ → Result (Path × List ℕ) Rule
segment_at size so_far octets = do
  kind ← octet_at AttributeValue octets
  known ← refuse AttributeValue (nat_lt kind.0 1 || nat_lt 4 kind.0)
  count ← octet_at AttributeValue kind.1
  numbers ← octets_at AttributeValue (count.0 * size) count.1
  Ok (record { length = so_far.length + segment_length kind.0 count.0; origin = segment_origin size kind.0 numbers.0 }, numbers.1)

-- the octets of an AS number
abbrev pub as_size : Bool → ℕ
as_size wide = if wide then 4 else 2

-- segments to the end
unfoldable pub path_of : ℕ → List ℕ → Result Path Rule
path_of size octets = until_end (segment_at size) no_path octets

-- what a path says of its length alone
abbrev pub path_length_of : ℕ → List ℕ → Result ℕ Rule
path_length_of size octets = path_of size octets >>= λ path. Ok path.length

-- what it says of its origin alone
abbrev pub path_origin_of : ℕ → List ℕ → Result (Option ℕ) Rule
path_origin_of size octets = path_of size octets >>= λ path. Ok path.origin
