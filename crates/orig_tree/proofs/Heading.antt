-- Which half of a region a longer prefix is within.
use Rattle.std.proofs.Common.{◌≡◌, ℕ, zero, suc, ◌-◌, ◌<◌, ◌≤◌, List, [], ◌∷◌, ◌++◌, length, length-append, take, Bool, true, false, ◌&&◌, refl, sym, ap, ◌∙◌, subst, arith, nat_eq}
use Rattle.std.specs.Int.{bit_at}
use Rattle.table_model.specs.Bits.{begins, bits_of}
use Rattle.table_model.specs.Width.{width}
use Rattle.table_model.specs.Address.{same_family}
use Rattle.table_model.specs.Halves.{is_within, half_at}
use Rattle.table_model.proofs.SamePrefix.{same_family_is}
use Rattle.fib_addr.specs.Views.{prefix_as}
use Rattle.fib_addr.specs.declared.prefix.Prefix as code
use Rattle.fib_addr.proofs.Parts.{length_prefix}
use Rattle.orig_tree.proofs.Arena.{begins_less}
use Rattle.orig_tree.proofs.Rooms.{no}

pub both_true : (a b : Bool) → (a && b) ≡ true → (a ≡ true) × (b ≡ true)
both_true true b e = (refl, e)
both_true false b e = cc

and_true : (a b : Bool) → a ≡ true → b ≡ true → (a && b) ≡ true
and_true true b e f = f
and_true false b e f = e

and_false : (a b : Bool) → b ≡ false → (a && b) ≡ false
and_false true b e = e
and_false false b e = refl

first_same : (b : Bool) (L : List Bool) → begins (b ∷ []) (b ∷ L) ≡ true
first_same true L = refl
first_same false L = refl

begins_tail : (c x : Bool) (P L : List Bool) → begins (c ∷ P) (x ∷ L) ≡ true → (c ≡ x) × (begins P L ≡ true)
begins_tail true true P L h = (refl, h)
begins_tail false false P L h = (refl, h)
begins_tail true false P L h = cc
begins_tail false true P L h = cc

begins_more : (c x : Bool) (P L : List Bool) → c ≡ x → begins P L ≡ true → begins (c ∷ P) (x ∷ L) ≡ true
begins_more true true P L e h = h
begins_more false false P L e h = h
begins_more true false P L e h = cc
begins_more false true P L e h = cc

longer_not : (P L : List Bool) → length L < length P → begins P L ≡ false
longer_not [] L l = absurd (omega (arith, l))
longer_not (true ∷ P) [] l = refl
longer_not (false ∷ P) [] l = refl
longer_not (true ∷ P) (true ∷ L) l = longer_not P L (omega (arith, l))
longer_not (false ∷ P) (false ∷ L) l = longer_not P L (omega (arith, l))
longer_not (true ∷ P) (false ∷ L) l = refl
longer_not (false ∷ P) (true ∷ L) l = refl

-- the bit that comes next
next_bit : (P : List Bool) (w m n : ℕ) → m ≤ w → length P < m → begins P (take m (bits_of w n)) ≡ true → begins (P ++ (nat_eq (bit_at n (w - length P - 1)) 1 ∷ [])) (take m (bits_of w n)) ≡ true
unfolding bits_of
next_bit P zero m n k l h = absurd (omega (arith, k, l))
next_bit P (suc w) zero n k l h = absurd (omega (arith, l))
next_bit [] (suc w) (suc m) n k l h =
    let is : w ≡ suc w - 0 - 1 = omega arith in
    subst (λ (j : ℕ). begins (nat_eq (bit_at n j) 1 ∷ []) (nat_eq (bit_at n w) 1 ∷ take m (bits_of w n)) ≡ true) is (first_same (nat_eq (bit_at n w) 1) (take m (bits_of w n)))
next_bit (c ∷ P) (suc w) (suc m) n k l h =
    let x = begins_tail c (nat_eq (bit_at n w) 1) P (take m (bits_of w n)) h in
    let is : w - length P - 1 ≡ suc w - suc (length P) - 1 = omega arith in
    subst (λ (j : ℕ). begins (c ∷ (P ++ (nat_eq (bit_at n j) 1 ∷ []))) (nat_eq (bit_at n w) 1 ∷ take m (bits_of w n)) ≡ true) is
    (begins_more c (nat_eq (bit_at n w) 1) (P ++ (nat_eq (bit_at n (w - length P - 1)) 1 ∷ [])) (take m (bits_of w n)) x.0 (next_bit P w m n (omega (arith, k)) (omega (arith, l)) x.1))

pub next_some : (p q : code.Prefix) (b : Bool) → p.len < q.len → is_within (prefix_as q) (prefix_as p) ≡ true → b ≡ nat_eq (bit_at q.bits (width p.family - p.len - 1)) 1 → is_within (prefix_as q) (half_at b (prefix_as p)) ≡ true
next_some p q b l h is =
    let P = (prefix_as p).bits in
    let x = both_true (same_family p.family q.family) (begins P (prefix_as q).bits) h in
    let long = length_prefix (width p.family) p.len p.bits p.fits in
    let place : width q.family - length P - 1 ≡ width p.family - p.len - 1 = omega (arith, long, ap width (same_family_is p.family q.family x.0)) in
    let y = next_bit P (width q.family) q.len q.bits q.fits (omega (arith, long, l)) x.1 in
    and_true (same_family p.family q.family) (begins (P ++ (b ∷ [])) (prefix_as q).bits) x.0
    (ap (λ c. begins (P ++ (c ∷ [])) (prefix_as q).bits) (is ∙ ap (λ j. nat_eq (bit_at q.bits j) 1) (sym place)) ∙ y)

pub next_short : (p q : code.Prefix) (b : Bool) → q.len ≤ p.len → is_within (prefix_as q) (half_at b (prefix_as p)) ≡ false
next_short p q b l =
    let P = (prefix_as p).bits in
    and_false (same_family p.family q.family) (begins (P ++ (b ∷ [])) (prefix_as q).bits)
    (longer_not (P ++ (b ∷ [])) (prefix_as q).bits (omega (arith, l, length-append P (b ∷ []), length_prefix (width p.family) p.len p.bits p.fits, length_prefix (width q.family) q.len q.bits q.fits)))

pub next_other : (p q : code.Prefix) (b : Bool) → is_within (prefix_as q) (prefix_as p) ≡ false → is_within (prefix_as q) (half_at b (prefix_as p)) ≡ false
next_other p q b h =
    let P = (prefix_as p).bits in
    let Q = (prefix_as q).bits in
    no (is_within (prefix_as q) (half_at b (prefix_as p))) (λ e.
    let x = both_true (same_family p.family q.family) (begins (P ++ (b ∷ [])) Q) e in
    let y : true ≡ false = sym (and_true (same_family p.family q.family) (begins P Q) x.0 (begins_less P Q b x.1)) ∙ h in cc)
