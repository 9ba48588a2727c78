-- The number that byteorder reads is the number of the octets.
use Rattle.std.proofs.Common.{Bool, true, false, cond, Err, ◌≡◌, ℕ, zero, suc, ◌≤◌, List, [], ◌∷◌, length, take, drop, Ok, refl, sym, ap, ◌∙◌, arith, ltb}
use Rattle.std.proofs.lemmas.List.{length-take}
use Rattle.std.proofs.lemmas.Bool.{ltb-false}
use Rattle.byteorder.specs.Endian.{big_number}
use Rattle.byteorder.specs.Numbers.{big_from-cons}
use Rattle.table_model.specs.Bits.{number}
use Rattle.octet_fields.specs.Field.{octets_at, number_at}

-- of the first n octets
pub number_of_front : (n : ℕ) (octets : List ℕ) → n ≤ length octets → number (take n octets) ≡ big_number n octets
unfolding number
number_of_front zero octets h = refl
number_of_front (suc n) [] h = absurd (omega arith)
number_of_front (suc n) (b ∷ octets) h =
    let le : n ≤ length octets = omega arith in
    let len : length (take n octets) ≡ n = omega (arith, length-take n octets) in
    rw (len, number_of_front n octets le, big_from-cons 0 n b octets) refl

-- of octets of which there are n
pub number_of_all : (n : ℕ) (octets : List ℕ) → length octets ≡ n → number octets ≡ big_number n octets
unfolding number
number_of_all zero [] h = refl
number_of_all (suc n) [] h = absurd (omega arith)
number_of_all zero (b ∷ octets) h = absurd (omega arith)
number_of_all (suc n) (b ∷ octets) h =
    let len : length octets ≡ n = omega arith in
    rw (number_of_all n octets len, big_from-cons 0 n b octets, len) refl

guard_ok : {A F : Type 0} (b : Bool) (fault : F) (x y : A) → cond b (Err fault) (Ok x) ≡ Ok y → (b ≡ false) × (x ≡ y)
guard_ok true fault x y e = absurd cc
guard_ok false fault x y e = (refl, cc)

-- what byteorder read of octets that were split off is the field
pub number_read : {F : Type 0} (fault : F) (n : ℕ) (octets front rest : List ℕ) (x : ℕ) → octets_at fault n octets ≡ Ok (front, rest) → x ≡ big_number n front → number_at fault n octets ≡ Ok (x, rest)
number_read fault n octets front rest x split e =
    let g = guard_ok (ltb (length octets) n) fault (take n octets, drop n octets) (front, rest) split in
    let le : n ≤ length octets = ltb-false _ _ g.0 in
    let f : take n octets ≡ front = ap (λ (p : List ℕ × List ℕ). p.0) g.1 in
    let r : drop n octets ≡ rest = ap (λ (p : List ℕ × List ℕ). p.1) g.1 in
    let len : length front ≡ n = ap length (sym f) ∙ omega (arith, length-take n octets) in
    let value : number (take n octets) ≡ x = ap number f ∙ number_of_all n front len ∙ sym e in
    rw g.0 (ap (λ (y : ℕ × List ℕ). Ok y) cc)
