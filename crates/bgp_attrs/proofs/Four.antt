-- Next hops out of octets.
use Rattle.std.proofs.Common.{◌≡◌, refl, sym, ap, ◌∙◌, eq-eqb, ℕ, List, length, true, Ok, arith}
use Rattle.std.specs.Prelude.{◌==◌}
use Rattle.byteorder.specs.Endian.{big_number}
use Rattle.table_model.specs.declared.family.Family.TheVariants.{V4}
use Rattle.table_model.specs.Bits.{bits_of, octet_bits}
use Rattle.table_model.proofs.BitLaws.{AreOctets}
use Rattle.fib_addr.proofs.Fronts.{bits_of_octets}
use Rattle.wire_model.specs.Attribute.{hop_of, next_hop_in}

-- an IPv4 address of the number that byteorder read of four octets
pub hop_of_four : (octets : List ℕ) (x : ℕ) → AreOctets octets → length octets ≡ 4 → x ≡ big_number 4 octets → record { family = V4; bits = bits_of 32 x } ≡ hop_of octets
hop_of_four octets x all len e =
    let bits : bits_of 32 x ≡ octet_bits octets = bits_of_octets octets 32 x all (omega (arith, len)) (e ∙ ap (λ n. big_number n octets) (sym len)) in
    let four : (length octets == 4) ≡ true = eq-eqb _ 4 len in
    rw (four, bits) refl

-- NEXT_HOP's value, which is four octets
pub next_hop_of_four : (value : List ℕ) (x : ℕ) → AreOctets value → length value ≡ 4 → x ≡ big_number 4 value → next_hop_in value ≡ Ok (record { family = V4; bits = bits_of 32 x })
next_hop_of_four value x all len e =
    let bits : bits_of 32 x ≡ octet_bits value = bits_of_octets value 32 x all (omega (arith, len)) (e ∙ ap (λ n. big_number n value) (sym len)) in
    let four : (length value == 4) ≡ true = eq-eqb _ 4 len in
    rw (four, bits) refl
