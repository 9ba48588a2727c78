-- What is written of an address is read as it.
use Rattle.std.proofs.Common.{◌≡◌, ℕ, zero, suc, ◌*◌, ◌^◌, ◌<◌, List, ◌∷◌, ◌++◌, length, Ok, refl, sym, ap, ◌∙◌, mod-eq_of_lt, get_or, subst, arith}
use Rattle.std.specs.Int.{bytes_high_first, byte_at}
use Rattle.std.proofs.lemmas.Nat.{mod_below}
use Rattle.table_model.specs.declared.family.Family.{Family}
use Rattle.table_model.specs.declared.family.Family.TheVariants.{V4, V6}
use Rattle.table_model.specs.Address.{Address, IsAddress}
use Rattle.table_model.specs.Bits.{bits_of, value_of, number, octet_bits}
use Rattle.table_model.specs.Width.{width}
use Rattle.table_model.proofs.BitLaws.{AreOctets, length-bits_of, value-bits_of, value-lt, bits_from_value, bits_of-number, octets_pow}
use Rattle.wire_model.specs.declared.rule.Rule.{Rule}
use Rattle.wire_model.specs.Wire.{octets_for, address_at}
use Rattle.wire_model.specs.Octets.{number_octets, address_octets}
use Rattle.wire_model.proofs.Fields.{length-number_octets, number-octets, octets_read}

byte_lt : (i n : ℕ) → byte_at i n < 256
byte_lt zero n = mod_below n 256 (omega arith)
byte_lt (suc i) n = mod_below _ 256 (omega arith)

all_octets : (b : ℕ) (octets : List ℕ) → b < 256 → AreOctets octets → AreOctets (b ∷ octets)
all_octets b octets h a = each
  where
    each : (i : ℕ) → get_or (b ∷ octets) i 0 < 256
    each zero = h
    each (suc i) = a i

bytes_are : (k n : ℕ) → AreOctets (bytes_high_first k n)
bytes_are zero n = λ i. omega arith
bytes_are (suc k) n = all_octets (byte_at k n) (bytes_high_first k n) (byte_lt k n) (bytes_are k n)

pub octets_are : (k n : ℕ) → AreOctets (number_octets k n)
unfolding number_octets
octets_are k n = bytes_are k n

-- the bits of a number's octets are its bits
number_bits : (k n : ℕ) → n < 256 ^ k → octet_bits (number_octets k n) ≡ bits_of (8 * k) n
number_bits k n h =
    sym (bits_of-number (number_octets k n) (octets_are k n))
    ∙ (ap (λ m. bits_of (8 * m) (number (number_octets k n))) (length-number_octets k n) ∙ ap (bits_of (8 * k)) (number-octets k n h))

pub whole : (family : Family) → 8 * octets_for (width family) ≡ width family
whole V4 = refl
whole V6 = refl

value_fits : (a : Address) → IsAddress a → value_of a.bits < 256 ^ octets_for (width a.family)
value_fits a h =
    let below : value_of a.bits < 2 ^ (8 * octets_for (width a.family)) = subst (λ n. value_of a.bits < 2 ^ n) (h ∙ sym (whole a.family)) (value-lt a.bits) in
    subst (λ n. value_of a.bits < n) (sym (octets_pow (octets_for (width a.family)))) below

pub length-address : (a : Address) → length (address_octets a) ≡ octets_for (width a.family)
length-address a = length-number_octets (octets_for (width a.family)) (value_of a.bits)

pub address_bits : (a : Address) → IsAddress a → octet_bits (address_octets a) ≡ a.bits
address_bits a h =
    let below : value_of a.bits < 2 ^ width a.family = subst (λ n. value_of a.bits < 2 ^ n) h (value-lt a.bits) in
    number_bits (octets_for (width a.family)) (value_of a.bits) (value_fits a h)
    ∙ (ap (λ n. bits_of n (value_of a.bits)) (whole a.family)
    ∙ bits_from_value (bits_of (width a.family) (value_of a.bits)) a.bits (length-bits_of (width a.family) (value_of a.bits) ∙ sym h) (value-bits_of (width a.family) (value_of a.bits) ∙ mod-eq_of_lt below))

pub address_read : (cut : Rule) (a : Address) (rest : List ℕ) → IsAddress a → address_at cut a.family (address_octets a ++ rest) ≡ Ok (a, rest)
unfolding address_at
address_read cut a rest h = rw (octets_read cut (octets_for (width a.family)) (address_octets a) rest (length-address a), address_bits a h) refl
