-- In the order of prefixes whatever is within a prefix comes right behind it.
use Rattle.std.proofs.Common.{◌≡◌, List, [], ◌∷◌, Bool, true, false, refl, sym, ap, ◌∙◌}
use Rattle.std.proofs.lemmas.Bool.{and_parts, and_from}
use Rattle.std.proofs.lemmas.List.Sorted.{ranks_by}
use Rattle.std.specs.Cmp.{IsStrictWeakOrder}
use Rattle.std.specs.Ordering.{is_le, is_lt, ordering_reverse, ordering_then}
use Rattle.std.specs.declared.cmp.Ordering.{Ordering}
use Rattle.std.specs.declared.cmp.Ordering.TheVariants.{Less, Equal, Greater}
use Rattle.table_model.specs.Address.{Prefix, IsPrefix, same_family}
use Rattle.table_model.specs.Bits.{begins}
use Rattle.table_model.specs.Order.{family_cmp, path_cmp, prefix_cmp}
use Rattle.table_model.specs.Halves.{is_within}
use Rattle.table_model.specs.declared.family.Family.{Family}
use Rattle.table_model.specs.declared.family.Family.TheVariants.{V4, V6}
use Rattle.table_model.proofs.Ordered.{equal_are_same, path_order, prefix_total}
use Rattle.table_model.proofs.SamePrefix.{same_family_is, same_family_itself}

-- ---- by bits

bits_between : (p r q : List Bool) → is_lt (path_cmp r p) ≡ false → is_lt (path_cmp q r) ≡ false → begins p q ≡ true → begins p r ≡ true
bits_between [] r q a b e = refl
bits_between (true ∷ p) [] q a b e = cc
bits_between (false ∷ p) [] q a b e = cc
bits_between (true ∷ p) (false ∷ r) q a b e = cc
bits_between (true ∷ p) (true ∷ r) [] a b e = cc
bits_between (true ∷ p) (true ∷ r) (true ∷ q) a b e = bits_between p r q a b e
bits_between (true ∷ p) (true ∷ r) (false ∷ q) a b e = cc
bits_between (false ∷ p) (true ∷ r) [] a b e = cc
bits_between (false ∷ p) (true ∷ r) (true ∷ q) a b e = cc
bits_between (false ∷ p) (true ∷ r) (false ∷ q) a b e = cc
bits_between (false ∷ p) (false ∷ r) [] a b e = cc
bits_between (false ∷ p) (false ∷ r) (true ∷ q) a b e = cc
bits_between (false ∷ p) (false ∷ r) (false ∷ q) a b e = bits_between p r q a b e

bits_behind : (p q : List Bool) → begins p q ≡ true → is_lt (path_cmp q p) ≡ false
bits_behind [] [] e = refl
bits_behind [] (b ∷ q) e = refl
bits_behind (true ∷ p) [] e = cc
bits_behind (false ∷ p) [] e = cc
bits_behind (true ∷ p) (true ∷ q) e = bits_behind p q e
bits_behind (true ∷ p) (false ∷ q) e = cc
bits_behind (false ∷ p) (true ∷ q) e = cc
bits_behind (false ∷ p) (false ∷ q) e = bits_behind p q e

bits_through : (p r q : List Bool) → begins p r ≡ true → begins r q ≡ true → begins p q ≡ true
bits_through [] r q a b = refl
bits_through (true ∷ p) [] q a b = cc
bits_through (false ∷ p) [] q a b = cc
bits_through (true ∷ p) (false ∷ r) q a b = cc
bits_through (false ∷ p) (true ∷ r) q a b = cc
bits_through (true ∷ p) (true ∷ r) [] a b = cc
bits_through (true ∷ p) (true ∷ r) (true ∷ q) a b = bits_through p r q a b
bits_through (true ∷ p) (true ∷ r) (false ∷ q) a b = cc
bits_through (false ∷ p) (false ∷ r) [] a b = cc
bits_through (false ∷ p) (false ∷ r) (true ∷ q) a b = cc
bits_through (false ∷ p) (false ∷ r) (false ∷ q) a b = bits_through p r q a b

-- ---- by prefixes

-- p comes before q in the order of prefixes, or is q
abbrev pub UpTo : Prefix → Prefix → Type 0
UpTo p q = is_lt (prefix_cmp q p) ≡ false

order : IsStrictWeakOrder (λ p q. is_lt (prefix_cmp p q))
order = ranks_by prefix_total (λ p. p)

pub up_through : (p r q : Prefix) → UpTo p r → UpTo r q → UpTo p q
up_through p r q a b = order.chain q r p b a

-- the other way to say it
pub le_from_up : (p q : Prefix) → UpTo p q → is_le (prefix_cmp p q) ≡ true
le_from_up p q a = ap is_le (prefix_total.antisymm p q) ∙ by_order (prefix_cmp q p) a
  where
    by_order : (o : Ordering) → is_lt o ≡ false → is_le (ordering_reverse o) ≡ true
    by_order Less e = cc
    by_order Equal e = refl
    by_order Greater e = refl

pub up_from_le : (p q : Prefix) → is_le (prefix_cmp p q) ≡ true → UpTo p q
up_from_le p q a = ap is_lt (prefix_total.antisymm q p) ∙ by_order (prefix_cmp p q) a
  where
    by_order : (o : Ordering) → is_le o ≡ true → is_lt (ordering_reverse o) ≡ false
    by_order Less e = refl
    by_order Equal e = refl
    by_order Greater e = cc

-- each up to the other: they are one
pub one_from_up : (p q : Prefix) → IsPrefix p → IsPrefix q → UpTo p q → UpTo q p → p ≡ q
one_from_up p q h k a b = equal_are_same p q h k (by_order (prefix_cmp p q) b (le_from_up p q a))
  where
    by_order : (o : Ordering) → is_lt o ≡ false → is_le o ≡ true → o ≡ Equal
    by_order Less x y = cc
    by_order Equal x y = refl
    by_order Greater x y = cc

families_between : (f g h : Family) (a b : Ordering) → f ≡ h → is_lt (ordering_then (family_cmp g f) a) ≡ false → is_lt (ordering_then (family_cmp h g) b) ≡ false → f ≡ g
families_between V4 V4 h a b e x y = refl
families_between V6 V6 h a b e x y = refl
families_between V4 V6 V4 a b e x y = cc
families_between V4 V6 V6 a b e x y = cc
families_between V6 V4 h a b e x y = cc

-- what stands between a prefix and one within it is within it
pub between : (p r q : Prefix) → IsPrefix p → IsPrefix r → IsPrefix q → UpTo p r → UpTo r q → is_within q p ≡ true → is_within r p ≡ true
between p r q hp hr hq a b e =
    let w = and_parts (same_family p.family q.family) (begins p.bits q.bits) e in
    let pq : p.family ≡ q.family = same_family_is p.family q.family w.0 in
    let pr : p.family ≡ r.family = families_between p.family r.family q.family _ _ pq a b in
    and_from (same_family p.family r.family) (begins p.bits r.bits) (ap (same_family p.family) (sym pr) ∙ same_family_itself p.family)
    (bits_between p.bits r.bits q.bits (ap is_lt (sym (path_order r p hr hp (sym pr))) ∙ a) (ap is_lt (sym (path_order q r hq hr (sym pq ∙ pr))) ∙ b) w.1)

-- what contains a prefix stands up to it
pub container_up : (p q : Prefix) → IsPrefix p → IsPrefix q → is_within q p ≡ true → UpTo p q
container_up p q hp hq e =
    let w = and_parts (same_family p.family q.family) (begins p.bits q.bits) e in
    ap is_lt (path_order q p hq hp (sym (same_family_is p.family q.family w.0))) ∙ bits_behind p.bits q.bits w.1

-- a prefix contains what is within one that it contains
pub within_through : (p r q : Prefix) → is_within r p ≡ true → is_within q r ≡ true → is_within q p ≡ true
within_through p r q a b =
    let v = and_parts (same_family p.family r.family) (begins p.bits r.bits) a in
    let w = and_parts (same_family r.family q.family) (begins r.bits q.bits) b in
    and_from (same_family p.family q.family) (begins p.bits q.bits) (ap (same_family p.family) (sym (same_family_is r.family q.family w.0)) ∙ v.0) (bits_through p.bits r.bits q.bits v.1 w.1)
