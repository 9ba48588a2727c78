-- What is written of a prefix is read as it.
use Rattle.std.proofs.Common.{◌≡◌, ℕ, zero, suc, ◌+◌, ◌-◌, ◌*◌, ◌^◌, ◌<◌, ◌≤◌, Bool, false, List, [], ◌∷◌, ◌++◌, length, take, replicate, Ok, refl, sym, ap, ◌∙◌, length-append, mod-eq_of_lt, subst, append-nil, arith}
use Rattle.std.specs.Prelude.{nat_lt}
use Rattle.std.proofs.lemmas.Bool.{le-ltb}
use Rattle.std.proofs.lemmas.List.{take_at, take-take, take_all, length-take-le, length-replicate}
use Rattle.table_model.specs.declared.family.Family.{Family}
use Rattle.table_model.specs.declared.family.Family.TheVariants.{V4}
use Rattle.table_model.specs.Address.{Prefix, IsPrefix}
use Rattle.table_model.specs.Bits.{bits_of, value_of, number, octet_bits}
use Rattle.table_model.specs.Order.{filled}
use Rattle.table_model.specs.Width.{width}
use Rattle.table_model.proofs.BitLaws.{length-bits_of, value-bits_of, value-lt, bits_from_value, bits_of-number, octets_pow}
use Rattle.octet_fields.specs.Field.{one_more}
use Rattle.wire_model.specs.declared.rule.Rule.{Rule}
use Rattle.wire_model.specs.Wire.{octets_for, prefix_at, nlri_at, nlris}
use Rattle.wire_model.specs.Octets.{number_octets, prefix_octets}
use Rattle.wire_model.proofs.Fields.{length-number_octets, number-octets, octets_read, nothing_read, one_step}
use Rattle.wire_model.proofs.Addresses.{octets_are, whole}

-- the bits of the first octets are the first bits
bits_front : (k : ℕ) (octets : List ℕ) → octet_bits (take k octets) ≡ take (8 * k) (octet_bits octets)
unfolding octet_bits
bits_front zero octets = refl
bits_front (suc k) [] = sym (take_all (8 * suc k) [] (omega arith))
bits_front (suc k) (b ∷ octets) =
    let e : 8 * suc k ≡ length (bits_of 8 b) + 8 * k = omega (arith, length-bits_of 8 b) in
    ap (λ (bits : List Bool). bits_of 8 b ++ bits) (bits_front k octets) ∙ (sym (take_past (bits_of 8 b) (octet_bits octets) (8 * k)) ∙ ap (λ (n : ℕ). take n (bits_of 8 b ++ octet_bits octets)) (sym e))
  where
    take_past : (xs ys : List Bool) (n : ℕ) → take (length xs + n) (xs ++ ys) ≡ xs ++ take n ys
    take_past [] ys n = let e : 0 + n ≡ n = omega arith in ap (λ (m : ℕ). take m ys) e
    take_past (x ∷ xs) ys n = let e : suc (length xs) + n ≡ suc (length xs + n) = omega arith in ap (λ (m : ℕ). take m (x ∷ (xs ++ ys))) e ∙ ap (λ (zs : List Bool). x ∷ zs) (take_past xs ys n)

-- bits with zeros after them, as a number, have these bits first
filled_bits : (w : ℕ) (bits : List Bool) → length bits ≤ w → take (length bits) (bits_of w (value_of (bits ++ replicate (w - length bits) false))) ≡ bits
filled_bits w bits h =
    let zeros = replicate (w - length bits) false in
    let long : length (bits ++ zeros) ≡ w = omega (arith, length-append bits zeros, length-replicate (w - length bits) false) in
    let below : value_of (bits ++ zeros) < 2 ^ w = subst (λ (n : ℕ). value_of (bits ++ zeros) < 2 ^ n) long (value-lt (bits ++ zeros)) in
    let same : bits_of w (value_of (bits ++ zeros)) ≡ bits ++ zeros = bits_from_value _ _ (length-bits_of w _ ∙ sym long) (value-bits_of w _ ∙ mod-eq_of_lt below) in
    ap (λ (all : List Bool). take (length bits) all) same ∙ take_at bits zeros (length bits) refl

filled_lt : (p : Prefix) → IsPrefix p → filled p < 256 ^ octets_for (width p.family)
filled_lt p h =
    let zeros = replicate (width p.family - length p.bits) false in
    let long : length (p.bits ++ zeros) ≡ 8 * octets_for (width p.family) = omega (arith, length-append p.bits zeros, length-replicate (width p.family - length p.bits) false, whole p.family) in
    let below : filled p < 2 ^ (8 * octets_for (width p.family)) = subst (λ (n : ℕ). filled p < 2 ^ n) long (value-lt (p.bits ++ zeros)) in
    subst (λ (n : ℕ). filled p < n) (sym (octets_pow (octets_for (width p.family)))) below

-- how many octets hold so many bits
enough : (n w : ℕ) → n ≤ w → (octets_for n ≤ octets_for w) × (n ≤ 8 * octets_for n)
enough n w h = (omega arith, omega arith)

-- the octets of the least address of a prefix
abbrev pub least_octets : Prefix → List ℕ
least_octets p = number_octets (octets_for (width p.family)) (filled p)

address_bits : (p : Prefix) → IsPrefix p → take (length p.bits) (octet_bits (take (octets_for (length p.bits)) (least_octets p))) ≡ p.bits
address_bits p h =
    let n = length p.bits in
    let w = octets_for (width p.family) in
    let len : length (least_octets p) ≡ w = length-number_octets w (filled p) in
    let bits : octet_bits (least_octets p) ≡ bits_of (width p.family) (filled p) =
    sym (bits_of-number (least_octets p) (octets_are w (filled p)))
    ∙ (ap (λ (k : ℕ). bits_of (8 * k) (number (least_octets p))) len ∙ (ap (λ (k : ℕ). bits_of k (number (least_octets p))) (whole p.family)
    ∙ ap (bits_of (width p.family)) (number-octets w (filled p) (filled_lt p h)))) in
    ap (take n) (bits_front (octets_for n) (least_octets p))
    ∙ (take-take n (8 * octets_for n) (octet_bits (least_octets p)) (enough n (width p.family) h).1
    ∙ (ap (take n) bits ∙ filled_bits (width p.family) p.bits h))

pub length-front : (p : Prefix) → IsPrefix p → length (take (octets_for (length p.bits)) (least_octets p)) ≡ octets_for (length p.bits)
length-front p h =
    let len : length (least_octets p) ≡ octets_for (width p.family) = length-number_octets (octets_for (width p.family)) (filled p) in
    let few = (enough (length p.bits) (width p.family) h).0 in
    length-take-le (octets_for (length p.bits)) (least_octets p) (omega arith)

-- ---- read

pub prefix_read : (cut : Rule) (p : Prefix) (rest : List ℕ) → IsPrefix p → prefix_at cut p.family (prefix_octets p ++ rest) ≡ Ok (p, rest)
unfolding prefix_at prefix_octets
prefix_read cut p rest h =
    let front = take (octets_for (length p.bits)) (least_octets p) in
    let short : nat_lt (width p.family) (length p.bits) ≡ false = le-ltb _ _ h in
    rw (short, octets_read cut (octets_for (length p.bits)) front rest (length-front p h), address_bits p h) refl

-- ---- of IPv4

pub v4_read : (cut : Rule) (p : Prefix) (rest : List ℕ) → p.family ≡ V4 → length p.bits ≤ 24 → prefix_at cut V4 (prefix_octets p ++ rest) ≡ Ok (p, rest)
v4_read cut p rest v4 few =
    let h : length p.bits ≤ width p.family = subst (λ (f : Family). length p.bits ≤ width f) (sym v4) (omega arith) in
    ap (λ (f : Family). prefix_at cut f (prefix_octets p ++ rest)) (sym v4) ∙ prefix_read cut p rest h

pub length-prefix : (p : Prefix) → p.family ≡ V4 → length p.bits ≤ 24 → length (prefix_octets p) ≡ 1 + octets_for (length p.bits)
unfolding prefix_octets
length-prefix p v4 few =
    let h : length p.bits ≤ width p.family = subst (λ (f : Family). length p.bits ≤ width f) (sym v4) (omega arith) in
    omega (arith, length-front p h)

-- a list of one entry of NLRI
pub nlri_read : (cut : Rule) (p : Prefix) → p.family ≡ V4 → length p.bits ≤ 24 → nlris cut false V4 (prefix_octets p) ≡ Ok (record { prefix = p; id = 0 } ∷ [])
unfolding nlris nlri_at
nlri_read cut p v4 few =
    let octets = prefix_octets p in
    let entry : nlri_at cut false V4 octets ≡ Ok (record { prefix = p; id = 0 }, []) = rw (nothing_read cut octets, ap (prefix_at cut V4) (sym (append-nil octets)) ∙ v4_read cut p [] v4 few) refl in
    let step : one_more (nlri_at cut false V4) [] octets ≡ Ok (record { prefix = p; id = 0 } ∷ [], []) = rw entry refl in
    one_step (one_more (nlri_at cut false V4)) [] (record { prefix = p; id = 0 } ∷ []) octets (omega (arith, length-prefix p v4 few)) step
