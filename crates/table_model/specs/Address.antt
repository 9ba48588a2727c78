-- Addresses and prefixes: a family and a list of bits.
use Rattle.std.specs.Prelude.{◌≡◌, ℕ, ◌≤◌, List, Bool, true, false, ◌&&◌, length, take}
use Rattle.table_model.specs.Bits.{begins, same_bits}
use Rattle.table_model.specs.Width.{width}
use Rattle.table_model.specs.declared.family.Family.{Family}
use Rattle.table_model.specs.declared.family.Family.TheVariants.{V4, V6}

-- an address, of as many bits as its family has
pub record Address : Type 0 where
  pub family : Family
  pub bits : List Bool

-- as many bits as the family's addresses have
abbrev pub IsAddress : Address → Type 0
IsAddress a = length a.bits ≡ width a.family

-- A prefix: the first bits of addresses, at most as many as its family has (RFC 4632, 3.1, and RFC 4291, 2.3). Its region is all addresses that begin with it.
pub record Prefix : Type 0 where
  pub family : Family
  pub bits : List Bool

-- at most as many bits as the family's addresses have
abbrev pub IsPrefix : Prefix → Type 0
IsPrefix p = length p.bits ≤ width p.family

-- whether two families are one
abbrev pub same_family : Family → Family → Bool
same_family V4 V4 = true
same_family V4 V6 = false
same_family V6 V4 = false
same_family V6 V6 = true

-- whether two addresses are one
abbrev pub same_address : Address → Address → Bool
same_address a b = same_family a.family b.family && same_bits a.bits b.bits

-- whether two prefixes are one
abbrev pub same_prefix : Prefix → Prefix → Bool
same_prefix p q = same_family p.family q.family && same_bits p.bits q.bits

-- whether the address begins with the prefix
abbrev pub contains : Prefix → Address → Bool
contains p a = same_family p.family a.family && begins p.bits a.bits

-- the first len bits of an address
abbrev pub first_bits : ℕ → Address → Prefix
first_bits len a = record { family = a.family; bits = take len a.bits }
