-- Addresses and prefixes on the wire.
use Rattle.std.specs.Prelude.{ℕ, ◌+◌, ◌/◌, Bool, List, [], Option, Some, None, Result, Ok, nat_lt, take, ◌==◌, if◌then◌else◌}
use Rattle.table_model.specs.declared.family.Family.{Family}
use Rattle.table_model.specs.declared.family.Family.TheVariants.{V4, V6}
use Rattle.table_model.specs.Bits.{octet_bits}
use Rattle.table_model.specs.Width.{width}
use Rattle.table_model.specs.Address.{Address, Prefix}
use Rattle.octet_fields.specs.Field.{refuse, octet_at, octets_at, number_at, one_more, until_end, ◌>>=◌}
use Rattle.wire_model.specs.declared.rule.Rule.{Rule}
use Rattle.wire_model.specs.declared.rule.Rule.TheVariants.{PrefixLength, AttributeValue}

-- the octets that hold n bits
abbrev pub octets_for : ℕ → ℕ
octets_for bits = (bits + 7) / 8

-- an address of as many octets as its family has
unfoldable pub address_at : Rule → Family → List ℕ → Result (Address × List ℕ) Rule
address_at cut family octets = do
  front ← octets_at cut (octets_for (width family)) octets
  Ok (record { family = family; bits = octet_bits front.0 }, front.1)

-- A prefix (RFC 4271, 4.3): the length in bits, which the family has to have, then the octets that hold them; bits past the length have no meaning.
unfoldable pub prefix_at : Rule → Family → List ℕ → Result (Prefix × List ℕ) Rule
prefix_at cut family octets = do
  len ← octet_at cut octets
  short ← refuse PrefixLength (nat_lt (width family) len.0)
  front ← octets_at cut (octets_for len.0) len.1
  Ok (record { family = family; bits = take len.0 (octet_bits front.0) }, front.1)

-- One entry of NLRI: a prefix, with the path identifier that tells a peer's routes of it apart (RFC 7911, 3).
pub record Nlri : Type 0 where
  pub prefix : Prefix
  pub id : ℕ

-- the octets of a path identifier: four if prefixes have one, and else none, which is identifier 0
abbrev pub id_size : Bool → ℕ
id_size ids = if ids then 4 else 0

-- Path Identifier, if prefixes have one, then the prefix.
unfoldable pub nlri_at : Rule → Bool → Family → List ℕ → Result (Nlri × List ℕ) Rule
nlri_at cut ids family octets = do
  id ← number_at cut (id_size ids) octets
  prefix ← prefix_at cut family id.1
  Ok (record { prefix = prefix.0; id = id.0 }, prefix.1)

-- entries to the end
unfoldable pub nlris : Rule → Bool → Family → List ℕ → Result (List Nlri) Rule
nlris cut ids family octets = until_end (one_more (nlri_at cut ids family)) [] octets

-- the family of an AFI (RFC 4760, 3): 1 IPv4, 2 IPv6
abbrev pub family_of : ℕ → Option Family
family_of afi = if afi == 1 then Some V4 else (if afi == 2 then Some V6 else None)

-- AFI, SAFI (RFC 4760, 3): the family, if it is unicast (SAFI 1) of a known one
unfoldable pub family_at : List ℕ → Result (Option Family × List ℕ) Rule
family_at octets = do
  afi ← number_at AttributeValue 2 octets
  safi ← octet_at AttributeValue afi.1
  Ok ((if safi.0 == 1 then family_of afi.0 else None), safi.1)
