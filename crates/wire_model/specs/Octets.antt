-- How numbers, addresses, prefixes, attributes and records are written as octets.
use Rattle.std.specs.Prelude.{ℕ, List, ◌∷◌, ◌++◌, length, take, replicate, flat_map, Some, None, ◌==◌, if◌then◌else◌}
use Rattle.std.specs.Int.{bytes_high_first}
use Rattle.table_model.specs.Address.{Address, Prefix}
use Rattle.table_model.specs.Bits.{value_of}
use Rattle.table_model.specs.Order.{filled}
use Rattle.table_model.specs.Width.{width}
use Rattle.wire_model.specs.Path.{Path}
use Rattle.wire_model.specs.Wire.{octets_for}

-- a number in n octets, the highest first (RFC 6396, 2; RFC 4271, 4)
unfoldable pub number_octets : ℕ → ℕ → List ℕ
number_octets k n = bytes_high_first k n

-- octets after their number in two octets
abbrev pub behind_length : List ℕ → List ℕ
behind_length octets = number_octets 2 (length octets) ++ octets

-- the octets of an address
abbrev pub address_octets : Address → List ℕ
address_octets a = number_octets (octets_for (width a.family)) (value_of a.bits)

-- A prefix (RFC 4271, 4.3): the length in bits, then the octets that hold them; bits past the length are 0.
unfoldable pub prefix_octets : Prefix → List ℕ
prefix_octets p = length p.bits ∷ take (octets_for (length p.bits)) (number_octets (octets_for (width p.family)) (filled p))

-- A well-known attribute (RFC 4271, 4.3): flags, of which the one for transitive is set, type, length, value.
unfoldable pub attribute_octets : ℕ → List ℕ → List ℕ
attribute_octets kind value = 64 ∷ kind ∷ length value ∷ value

-- AS_PATH of one AS_SEQUENCE that has one AS number n times, in four octets (RFC 4271, 4.3; RFC 6793, 3)
unfoldable pub as_path_octets : ℕ → ℕ → List ℕ
as_path_octets asn n = 2 ∷ n ∷ flat_map (number_octets 4) (replicate n asn)

-- the path of one AS number n times: that AS is its origin, unless the path is empty
abbrev pub repeated_path : ℕ → ℕ → Path
repeated_path asn n = record { length = n; origin = if n == 0 then None else Some asn }

-- An MRT record (RFC 6396, 2): Timestamp, which is 0, Type, Subtype, Length and the body.
unfoldable pub record_octets : ℕ → ℕ → List ℕ → List ℕ
record_octets kind subtype body = number_octets 4 0 ++ number_octets 2 kind ++ number_octets 2 subtype ++ number_octets 4 (length body) ++ body
