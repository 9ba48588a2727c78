-- The order of prefixes is total, prefixes that it doesn't tell apart are one, and in one family it is the order of bits.
use Rattle.std.proofs.Common.{inl, inr, ◌≡◌, ℕ, zero, suc, ◌+◌, ◌-◌, ◌*◌, ◌/◌, ◌^◌, ◌<◌, ◌≤◌, List, [], ◌∷◌, ◌++◌, Bool, true, false, length, replicate, refl, sym, ap, ◌∙◌, subst, arith}
use Rattle.std.proofs.Common.{add-zero, length-append}
use Rattle.std.proofs.lemmas.Bool.{cases_lt}
use Rattle.std.proofs.Math.ListN.{length-replicate}
use Rattle.std.proofs.lemmas.Nat.{shl-shr}
use Rattle.std.specs.Cmp.{IsTotalOrder, nat_cmp_is}
use Rattle.std.specs.Ordering.{nat_cmp, ordering_then}
use Rattle.std.specs.declared.cmp.Ordering.{Ordering}
use Rattle.std.specs.declared.cmp.Ordering.TheVariants.{Less, Equal, Greater}
use Rattle.std.proofs.lemmas.Cmp.{nat_cmp_total, on_total, then_total, ranked}
use Rattle.table_model.specs.Bits.{value_of}
use Rattle.table_model.specs.Width.{width}
use Rattle.table_model.specs.Address.{Prefix, IsPrefix}
use Rattle.table_model.specs.Order.{family_cmp, filled, prefix_cmp, path_cmp}
use Rattle.table_model.specs.declared.family.Family.{Family}
use Rattle.table_model.specs.declared.family.Family.TheVariants.{V4, V6}
use Rattle.table_model.proofs.BitLaws.{value-append, value-zeros, value-lt, bits_from_value}

pub prefix_total : IsTotalOrder prefix_cmp
prefix_total = then_total (on_total (λ (p : Prefix). width p.family) nat_cmp_total) (then_total (on_total filled nat_cmp_total) (on_total (λ (p : Prefix). length p.bits) nat_cmp_total))

filled_is : (p : Prefix) → filled p ≡ value_of p.bits * 2 ^ (width p.family - length p.bits)
filled_is p =
    let k = width p.family - length p.bits in
    value-append p.bits (replicate k false) ∙ (ap (λ x. value_of p.bits * 2 ^ length (replicate k false) + x) (value-zeros k) ∙ (ap (λ j. value_of p.bits * 2 ^ j + 0) (length-replicate k false) ∙ add-zero _))

family_from_width : (f g : Family) → width f ≡ width g → f ≡ g
family_from_width V4 V4 e = refl
family_from_width V4 V6 e = absurd (omega arith)
family_from_width V6 V4 e = absurd (omega arith)
family_from_width V6 V6 e = refl

equal_numbers : (x y : ℕ) → nat_cmp x y ≡ Equal → x ≡ y
equal_numbers x y e = ranked x y Equal (sym e)

both_equal : (a b : Ordering) → ordering_then a b ≡ Equal → (a ≡ Equal) × (b ≡ Equal)
both_equal Less b e = cc
both_equal Equal b e = (refl, e)
both_equal Greater b e = cc

-- prefixes that the order doesn't tell apart are one
pub equal_are_same : (p q : Prefix) → IsPrefix p → IsPrefix q → prefix_cmp p q ≡ Equal → p ≡ q
equal_are_same p q hp hq e =
    let x = both_equal _ _ e in
    let y = both_equal _ _ x.1 in
    let f : p.family ≡ q.family = family_from_width p.family q.family (equal_numbers _ _ x.0) in
    let l : length p.bits ≡ length q.bits = equal_numbers _ _ y.1 in
    let k = width q.family - length q.bits in
    let same : value_of p.bits * 2 ^ k ≡ value_of q.bits * 2 ^ k =
    ap (λ (j : ℕ). value_of p.bits * 2 ^ j) (let s : k ≡ width p.family - length p.bits = omega (arith, ap width f) in s) ∙ (sym (filled_is p) ∙ (equal_numbers _ _ y.0 ∙ filled_is q)) in
    let v : value_of p.bits ≡ value_of q.bits = sym (shl-shr (value_of p.bits) k) ∙ (ap (λ (n : ℕ). n / 2 ^ k) same ∙ shl-shr (value_of q.bits) k) in
    let b : p.bits ≡ q.bits = bits_from_value p.bits q.bits l v in
    ap (λ x. let r : Prefix = record { family = x; bits = p.bits } in r) f ∙ ap (λ x. let r : Prefix = record { family = q.family; bits = x } in r) b

-- ---- the order of prefixes of one family

-- the number of the least address of a prefix, for addresses of w bits
abbrev padded : ℕ → List Bool → ℕ
padded w p = value_of (p ++ replicate (w - length p) false)

full : (w : ℕ) (p : List Bool) → length p ≤ w → length (p ++ replicate (w - length p) false) ≡ w
full w p h = omega (arith, length-append p (replicate (w - length p) false), length-replicate (w - length p) false)

padded_nil : (w : ℕ) → padded w [] ≡ 0
padded_nil w = value-zeros (w - 0)

padded_lt : (w : ℕ) (p : List Bool) → length p ≤ w → padded w p < 2 ^ w
padded_lt w p h = subst (λ (n : ℕ). padded w p < 2 ^ n) (full w p h) (value-lt (p ++ replicate (w - length p) false))

padded_true : (w : ℕ) (p : List Bool) → length p ≤ w → padded (suc w) (true ∷ p) ≡ 2 ^ w + padded w p
unfolding value_of
padded_true w p h =
    let e : suc w - suc (length p) ≡ w - length p = omega arith in
    ap (λ k. value_of (true ∷ (p ++ replicate k false))) e ∙ ap (λ n. 2 ^ n + padded w p) (full w p h)

padded_false : (w : ℕ) (p : List Bool) → padded (suc w) (false ∷ p) ≡ 0 + padded w p
unfolding value_of
padded_false w p =
    let e : suc w - suc (length p) ≡ w - length p = omega arith in
    ap (λ k. value_of (false ∷ (p ++ replicate k false))) e

less : (x y : ℕ) → x < y → nat_cmp x y ≡ Less
less x y h = sym (nat_cmp_is x y Less h)

same : (x : ℕ) → nat_cmp x x ≡ Equal
same x = sym (nat_cmp_is x x Equal refl)

greater : (x y : ℕ) → y < x → nat_cmp x y ≡ Greater
greater x y h = sym (nat_cmp_is x y Greater h)

then_less : (a b x y : ℕ) → a ≤ b → x < y → ordering_then (nat_cmp a b) (nat_cmp x y) ≡ Less
then_less a b x y h k =
    elim (cases_lt a b) [
      | inl l ↦ ap (λ o. ordering_then o (nat_cmp x y)) (less a b l)
      | inr g ↦ let e : a ≡ b = omega arith in ap (λ z. ordering_then (nat_cmp a z) (nat_cmp x y)) (sym e) ∙ (ap (λ o. ordering_then o (nat_cmp x y)) (same a) ∙ less x y k)
    ]

then_greater : (a b x y : ℕ) → b ≤ a → y < x → ordering_then (nat_cmp a b) (nat_cmp x y) ≡ Greater
then_greater a b x y h k =
    elim (cases_lt b a) [
      | inl l ↦ ap (λ o. ordering_then o (nat_cmp x y)) (greater a b l)
      | inr g ↦ let e : a ≡ b = omega arith in ap (λ z. ordering_then (nat_cmp a z) (nat_cmp x y)) (sym e) ∙ (ap (λ o. ordering_then o (nat_cmp x y)) (same a) ∙ greater x y k)
    ]

shifted : (c a b : ℕ) → nat_cmp (c + a) (c + b) ≡ nat_cmp a b
shifted c a b =
    elim (cases_lt a b) [
      | inl l ↦ less (c + a) (c + b) (omega arith) ∙ sym (less a b l)
      | inr g ↦ elim (cases_lt b a) [
        | inl l ↦ greater (c + a) (c + b) (omega arith) ∙ sym (greater a b l)
        | inr k ↦ let e : a ≡ b = omega arith in ap (λ z. nat_cmp (c + a) (c + z)) (sym e) ∙ (same (c + a) ∙ (sym (same a) ∙ ap (nat_cmp a) e))
      ]
    ]

one_more : (a b : ℕ) → nat_cmp (suc a) (suc b) ≡ nat_cmp a b
one_more a b =
    let x : suc a ≡ 1 + a = omega arith in
    let y : suc b ≡ 1 + b = omega arith in
    ap (λ z. nat_cmp z (suc b)) x ∙ (ap (nat_cmp (1 + a)) y ∙ shifted 1 a b)

abbrev by_padded : ℕ → List Bool → List Bool → Ordering
by_padded w p q = ordering_then (nat_cmp (padded w p) (padded w q)) (nat_cmp (length p) (length q))

next : (w : ℕ) (p q : List Bool) (x y c : ℕ) → x ≡ c + padded w p → y ≡ c + padded w q → ordering_then (nat_cmp x y) (nat_cmp (suc (length p)) (suc (length q))) ≡ by_padded w p q
next w p q x y c e k =
    ap (λ z. ordering_then (nat_cmp z y) (nat_cmp (suc (length p)) (suc (length q)))) e
    ∙ (ap (λ z. ordering_then (nat_cmp (c + padded w p) z) (nat_cmp (suc (length p)) (suc (length q)))) k
    ∙ (ap (λ o. ordering_then o (nat_cmp (suc (length p)) (suc (length q)))) (shifted c (padded w p) (padded w q))
    ∙ ap (ordering_then (nat_cmp (padded w p) (padded w q))) (one_more (length p) (length q))))

paths : (w : ℕ) (p q : List Bool) → length p ≤ w → length q ≤ w → by_padded w p q ≡ path_cmp p q
paths w [] [] h k = ap (λ o. ordering_then o (nat_cmp 0 0)) (same (padded w [])) ∙ same 0
paths w [] (c ∷ q) h k = then_less (padded w []) (padded w (c ∷ q)) 0 (suc (length q)) (omega (arith, padded_nil w)) (omega arith)
paths w (b ∷ p) [] h k = then_greater (padded w (b ∷ p)) (padded w []) (suc (length p)) 0 (omega (arith, padded_nil w)) (omega arith)
paths zero (b ∷ p) (c ∷ q) h k = absurd (omega arith)
paths (suc w) (true ∷ p) (true ∷ q) h k = next w p q _ _ (2 ^ w) (padded_true w p (omega arith)) (padded_true w q (omega arith)) ∙ paths w p q (omega arith) (omega arith)
paths (suc w) (false ∷ p) (false ∷ q) h k = next w p q _ _ 0 (padded_false w p) (padded_false w q) ∙ paths w p q (omega arith) (omega arith)
paths (suc w) (true ∷ p) (false ∷ q) h k =
    let g : padded (suc w) (false ∷ q) < padded (suc w) (true ∷ p) = omega (arith, padded_true w p (omega arith), padded_false w q, padded_lt w q (omega arith)) in
    ap (λ o. ordering_then o (nat_cmp (suc (length p)) (suc (length q)))) (greater (padded (suc w) (true ∷ p)) (padded (suc w) (false ∷ q)) g)
paths (suc w) (false ∷ p) (true ∷ q) h k =
    let g : padded (suc w) (false ∷ p) < padded (suc w) (true ∷ q) = omega (arith, padded_true w q (omega arith), padded_false w p, padded_lt w p (omega arith)) in
    ap (λ o. ordering_then o (nat_cmp (suc (length p)) (suc (length q)))) (less (padded (suc w) (false ∷ p)) (padded (suc w) (true ∷ q)) g)

family_itself : (f : Family) → family_cmp f f ≡ Equal
family_itself V4 = refl
family_itself V6 = refl

-- prefixes of one family stand in the order of their bits
pub path_order : (p q : Prefix) → IsPrefix p → IsPrefix q → p.family ≡ q.family → prefix_cmp p q ≡ path_cmp p.bits q.bits
path_order p q h k e =
    let l : length q.bits ≤ width p.family = omega (arith, k, ap width e) in
    ap (λ f. ordering_then (family_cmp p.family f) (ordering_then (nat_cmp (filled p) (padded (width f) q.bits)) (nat_cmp (length p.bits) (length q.bits)))) (sym e)
    ∙ (ap (λ o. ordering_then o (by_padded (width p.family) p.bits q.bits)) (family_itself p.family) ∙ paths (width p.family) p.bits q.bits h l)
