-- Addresses and first bits out of octets.
use Rattle.std.proofs.Common.{◌≡◌, ℕ, ◌+◌, ◌-◌, ◌*◌, ◌/◌, ◌%◌, ◌^◌, ◌<◌, ◌≤◌, List, take, length, refl, sym, ap, ◌∙◌, arith, subst}
use Rattle.std.proofs.lemmas.Nat.{shl_whole, shr_below, shl_below, shl-shr}
use Rattle.std.proofs.Math.Nat.{mul-mod_left}
use Rattle.byteorder.specs.Endian.{big_number}
use Rattle.table_model.specs.Bits.{bits_of, number, octet_bits}
use Rattle.table_model.proofs.BitLaws.{AreOctets, bits_take, bits_of-number, number-lt}
use Rattle.octet_fields.proofs.Numbers.{number_of_all}

-- what byteorder read of all octets has their bits
pub bits_of_octets : (octets : List ℕ) (w x : ℕ) → AreOctets octets → 8 * length octets ≡ w → x ≡ big_number (length octets) octets → bits_of w x ≡ octet_bits octets
bits_of_octets octets w x all h e =
    ap (λ j. bits_of j x) (sym h) ∙ (ap (bits_of (8 * length octets)) (e ∙ sym (number_of_all (length octets) octets refl)) ∙ bits_of-number octets all)

-- a number that was moved to the front of so many bits
pub record IsFront (octets : List ℕ) (len w y : ℕ) : Type 0 where
  pub bits : take len (bits_of w y) ≡ take len (octet_bits octets)
  pub below : y < 2 ^ w
  pub cleared : y % 2 ^ (w - len) ≡ 0

pub front_is : (octets : List ℕ) (len w x n y : ℕ) → AreOctets octets → len ≤ w → w ≤ 128 → length octets ≡ (len + 7) / 8 → x ≡ big_number (length octets) octets → n ≡ len
    → y ≡ x / 2 ^ (8 * length octets - n) * 2 ^ (w - len) % 2 ^ 128 → IsFront octets len w y
front_is octets len w x n y all fits wide hold e from is =
    let u = 8 * length octets - len in
    let long : len + u ≡ 8 * length octets = omega (arith, hold) in
    let same : x ≡ number octets = e ∙ sym (number_of_all (length octets) octets refl) in
    let lt : x < 2 ^ (len + u) = subst (λ (j : ℕ). x < 2 ^ j) (sym long) (subst (λ (m : ℕ). m < 2 ^ (8 * length octets)) (sym same) (number-lt octets all)) in
    let low : x / 2 ^ u < 2 ^ len = shr_below x len u lt in
    let whole : y ≡ x / 2 ^ u * 2 ^ (w - len) = is ∙ (ap (λ (j : ℕ). x / 2 ^ (8 * length octets - j) * 2 ^ (w - len) % 2 ^ 128) from ∙ shl_whole (x / 2 ^ u) len (w - len) 128 low (omega arith)) in
    let v : len + (w - len) ≡ w = omega arith in
    let up : bits_of (8 * length octets) x ≡ octet_bits octets = ap (bits_of (8 * length octets)) same ∙ bits_of-number octets all in
    let left : take len (bits_of w y) ≡ bits_of len (x / 2 ^ u) = bits_take w len y fits ∙ (ap (λ (m : ℕ). bits_of len (m / 2 ^ (w - len))) whole ∙ ap (bits_of len) (shl-shr (x / 2 ^ u) (w - len))) in
    let right : bits_of len (x / 2 ^ u) ≡ take len (octet_bits octets) = sym (bits_take (8 * length octets) len x (omega (arith, hold))) ∙ ap (take len) up in
    record {
      bits = left ∙ right;
      below = subst (λ (m : ℕ). m < 2 ^ w) (sym whole) (subst (λ (j : ℕ). x / 2 ^ u * 2 ^ (w - len) < 2 ^ j) v (shl_below (x / 2 ^ u) len (w - len) low));
      cleared = ap (λ (m : ℕ). m % 2 ^ (w - len)) whole ∙ mul-mod_left (x / 2 ^ u) (2 ^ (w - len));
    }
