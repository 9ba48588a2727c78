-- First bits of numbers: filled with zeros, and compared.
use Rattle.std.proofs.Common.{◌≡◌, ℕ, ◌+◌, ◌-◌, ◌*◌, ◌/◌, ◌%◌, ◌^◌, ◌<◌, ◌≤◌, List, [], ◌∷◌, Bool, true, false, nat_eq, length, take, refl, sym, ap, ◌∙◌, arith, subst, eq-eqb, inl, inr}
use Rattle.std.specs.Prelude.{◌&&◌}
use Rattle.std.proofs.lemmas.Bool.{ne_eqb, cases_eq}
use Rattle.std.proofs.lemmas.Nat.{shl-shr, shr_below}
use Rattle.table_model.specs.Bits.{bits_of, begins, same_bits}
use Rattle.table_model.specs.Width.{width}
use Rattle.table_model.specs.Address.{contains, same_family}
use Rattle.table_model.specs.declared.family.Family.{Family}
use Rattle.std.proofs.Common.{◌++◌, replicate}
use Rattle.std.proofs.lemmas.List.{length-replicate}
use Rattle.table_model.proofs.BitLaws.{bits_take, bits_split, bits_from_value, length-bits_of, value-bits_of, value-zeros, same_from_bits}
use Rattle.table_model.proofs.SamePrefix.{same_bits_are, same_bits_itself, same_family_itself}

-- filling with zeros keeps the first bits
pub filled_bits : (w len n : ℕ) → len ≤ w → take len (bits_of w (n / 2 ^ (w - len) * 2 ^ (w - len))) ≡ take len (bits_of w n)
filled_bits w len n h =
    let u = w - len in
    bits_take w len (n / 2 ^ u * 2 ^ u) h ∙ (ap (bits_of len) (shl-shr (n / 2 ^ u) u) ∙ sym (bits_take w len n h))

begins_take : (p a : List Bool) → length p ≤ length a → begins p a ≡ same_bits p (take (length p) a)
unfolding same_bits
begins_take [] a h = refl
begins_take (b ∷ p) [] h = absurd (omega arith)
begins_take (true ∷ p) (true ∷ a) h = begins_take p a (omega arith)
begins_take (true ∷ p) (false ∷ a) h = refl
begins_take (false ∷ p) (true ∷ a) h = refl
begins_take (false ∷ p) (false ∷ a) h = begins_take p a (omega arith)

-- the test of bits is the test of the numbers
pub same_bits-nat_eq : (k m n : ℕ) → m < 2 ^ k → n < 2 ^ k → same_bits (bits_of k m) (bits_of k n) ≡ nat_eq m n
same_bits-nat_eq k m n a b = elim (cases_eq m n) [
  | inl e ↦ ap (λ x. same_bits (bits_of k m) (bits_of k x)) (sym e) ∙ (same_bits_itself (bits_of k m) ∙ sym (eq-eqb m n e))
  | inr ne ↦ not_same (same_bits (bits_of k m) (bits_of k n)) refl ne ∙ sym (ne_eqb m n ne)
]
  where
    not_same : (t : Bool) → same_bits (bits_of k m) (bits_of k n) ≡ t → (m ≡ n → ⊥) → t ≡ false
    not_same true e ne = absurd (ne (same_from_bits k m n a b (same_bits_are (bits_of k m) (bits_of k n) e)))
    not_same false e ne = refl

pub begins-nat_eq : (w len m n : ℕ) → len ≤ w → m < 2 ^ w → n < 2 ^ w → begins (take len (bits_of w m)) (bits_of w n) ≡ nat_eq (m / 2 ^ (w - len)) (n / 2 ^ (w - len))
begins-nat_eq w len m n h a b =
    let u = w - len in
    let e : len + u ≡ w = omega arith in
    let p : take len (bits_of w m) ≡ bits_of len (m / 2 ^ u) = bits_take w len m h in
    let long : length (bits_of len (m / 2 ^ u)) ≡ len = length-bits_of len (m / 2 ^ u) in
    ap (λ x. begins x (bits_of w n)) p
    ∙ (begins_take (bits_of len (m / 2 ^ u)) (bits_of w n) (omega (arith, long, length-bits_of w n))
    ∙ (ap (λ j. same_bits (bits_of len (m / 2 ^ u)) (take j (bits_of w n))) long
    ∙ (ap (same_bits (bits_of len (m / 2 ^ u))) (bits_take w len n h)
    ∙ same_bits-nat_eq len (m / 2 ^ u) (n / 2 ^ u) (shr_below m len u (subst (λ (j : ℕ). m < 2 ^ j) (sym e) a)) (shr_below n len u (subst (λ (j : ℕ). n < 2 ^ j) (sym e) b)))))

-- the prefix of an address
pub prefix_is : (f : Family) (n len w bits : ℕ) → w ≡ width f → len ≤ width f → bits ≡ n / 2 ^ (w - len) * 2 ^ (w - len) → take len (bits_of (width f) bits) ≡ take len (bits_of (width f) n)
prefix_is f n len w bits e h b =
    let same : bits ≡ n / 2 ^ (width f - len) * 2 ^ (width f - len) = b ∙ ap (λ (j : ℕ). n / 2 ^ (j - len) * 2 ^ (j - len)) e in
    ap (λ x. take len (bits_of (width f) x)) same ∙ filled_bits (width f) len n h

-- an address of the prefix's family begins with it where the upper bits are the same numbers
pub contains_is : (f g : Family) (len m n w a b : ℕ) → f ≡ g → w ≡ width f → len ≤ width f → m < 2 ^ width f → n < 2 ^ width g → a ≡ m / 2 ^ (w - len) → b ≡ n / 2 ^ (w - len)
    → nat_eq a b ≡ contains (record { family = f; bits = take len (bits_of (width f) m) }) (record { family = g; bits = bits_of (width g) n })
contains_is f g len m n w a b e x h p q ea eb =
    let u : w - len ≡ width f - len = omega (arith, x) in
    let left : a ≡ m / 2 ^ (width f - len) = ea ∙ ap (λ (j : ℕ). m / 2 ^ j) u in
    let right : b ≡ n / 2 ^ (width f - len) = eb ∙ ap (λ (j : ℕ). n / 2 ^ j) u in
    let small : n < 2 ^ width f = subst (λ (k : Family). n < 2 ^ width k) (sym e) q in
    let same : same_family f g ≡ true = ap (same_family f) (sym e) ∙ same_family_itself f in
    ap (λ y. nat_eq y b) left ∙ (ap (nat_eq (m / 2 ^ (width f - len))) right
    ∙ (sym (begins-nat_eq (width f) len m n h p small)
    ∙ (ap (λ k. begins (take len (bits_of (width f) m)) (bits_of (width k) n)) e
    ∙ ap (λ t. t && begins (take len (bits_of (width f) m)) (bits_of (width g) n)) (sym same))))

-- bits that end in zeros are their first bits filled with zeros
pub bits_filled : (w len n : ℕ) → len ≤ w → n % 2 ^ (w - len) ≡ 0 → bits_of w n ≡ take len (bits_of w n) ++ replicate (w - length (take len (bits_of w n))) false
bits_filled w len n h z =
    let u = w - len in
    let e : len + u ≡ w = omega arith in
    let front : take len (bits_of w n) ≡ bits_of len (n / 2 ^ u) = bits_take w len n h in
    let long : length (take len (bits_of w n)) ≡ len = ap length front ∙ length-bits_of len (n / 2 ^ u) in
    let low : bits_of u n ≡ replicate u false = bits_from_value (bits_of u n) (replicate u false) (length-bits_of u n ∙ sym (length-replicate u false)) (value-bits_of u n ∙ (z ∙ sym (value-zeros u))) in
    ap (λ j. bits_of j n) (sym e)
    ∙ (bits_split len u n
    ∙ (ap (λ x. x ++ bits_of u n) (sym front)
    ∙ ap (λ x. take len (bits_of w n) ++ x) (low ∙ ap (λ (k : ℕ). replicate (w - k) false) (sym long))))

-- a prefix of len bits has that length
pub length_prefix : (w len n : ℕ) → len ≤ w → length (take len (bits_of w n)) ≡ len
length_prefix w len n h = ap length (bits_take w len n h) ∙ length-bits_of len (n / 2 ^ (w - len))
