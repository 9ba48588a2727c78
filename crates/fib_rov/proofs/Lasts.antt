-- The last VRP that covers a prefix, and the last that encloses one.
use Rattle.std.proofs.Common.{◌≡◌, ℕ, ◌+◌, ◌-◌, ◌<◌, ◌≤◌, ◌≢◌, inl, inr, Bool, true, false, not, List, [], ◌∷◌, ◌++◌, length, get_or, refl, sym, ap, subst, ◌∙◌, arith, length-append}
use Rattle.std.specs.Prelude.{◌&&◌}
use Rattle.std.proofs.lemmas.Bool.{and_parts, and_from, cases_lt, cases_eq}
use Rattle.std.proofs.lemmas.List.{get_or_append_left, get_or_default, get_or_push}
use Rattle.std.proofs.lemmas.List.Sorted.{ranks_by, sorted_far}
use Rattle.std.specs.List.Sorted.{IsPartitionedBy}
use Rattle.std.specs.Ordering.{is_lt}
use Rattle.table_model.specs.Address.{Prefix, IsPrefix, same_prefix}
use Rattle.table_model.specs.Order.{prefix_cmp}
use Rattle.table_model.specs.Halves.{is_within}
use Rattle.table_model.proofs.Ordered.{prefix_total}
use Rattle.table_model.proofs.SamePrefix.{same_prefix_is, same_prefix_itself}
use Rattle.fib_addr.specs.Views.{prefix_as}
use Rattle.fib_rov.specs.declared.numbered.Numbered.{Numbered}
use Rattle.fib_rov.specs.Index.{AreLinked, AreSorted, AreUpTo, IsLast, IsVrpPlace, vrp_covers, encloses, prefix_of, stands_up_to}
use Rattle.fib_rov.proofs.Same.{is_prefix}
use Rattle.fib_rov.proofs.Between.{UpTo, between, container_up, le_from_up, one_from_up, up_from_le, up_through, within_through}

-- the prefix of the VRP at a place
abbrev pub at_place : List Numbered → ℕ → Numbered → Prefix
at_place sorted i r = prefix_as (prefix_of (get_or sorted i r))

fits : (sorted : List Numbered) (i : ℕ) (r : Numbered) → IsPrefix (at_place sorted i r)
fits sorted i r = is_prefix (prefix_of (get_or sorted i r))

pub rise : (sorted : List Numbered) (i j : ℕ) (r : Numbered) → AreSorted sorted → i ≤ j → j < length sorted → UpTo (at_place sorted i r) (at_place sorted j r)
rise sorted i j r s h k = sorted_far (λ (x y : Numbered). is_lt (prefix_cmp (prefix_as (prefix_of x)) (prefix_as (prefix_of y)))) (ranks_by prefix_total (λ (x : Numbered). prefix_as (prefix_of x))) sorted s i j r h k

-- at whatever default
pub prefix_at : (sorted : List Numbered) (i : ℕ) (d e : Numbered) → i < length sorted → at_place sorted i d ≡ at_place sorted i e
prefix_at sorted i d e h = ap (λ (x : Numbered). prefix_as (prefix_of x)) (get_or_default sorted i d e h)

not_true : (b : Bool) → (b ≡ true → ⊥) → b ≡ false
not_true true f = absurd (f refl)
not_true false f = refl

pub apart : (b : Bool) → b ≡ true → b ≡ false → ⊥
apart b e f = cc

-- it covers the prefix without enclosing it: it has that prefix
pub has_from : (q : Prefix) (r : Numbered) → vrp_covers q r ≡ true → encloses q r ≡ false → prefix_as (prefix_of r) ≡ q
has_from q r c e = same_prefix_is (prefix_as (prefix_of r)) q (by_tests (vrp_covers q r) (same_prefix (prefix_as (prefix_of r)) q) c e)
  where
    by_tests : (a b : Bool) → a ≡ true → (a && not b) ≡ false → b ≡ true
    by_tests true true x y = refl
    by_tests true false x y = cc
    by_tests false b x y = cc

pub encloses_parts : (q : Prefix) (r : Numbered) → encloses q r ≡ true → vrp_covers q r ≡ true
encloses_parts q r e = (and_parts (vrp_covers q r) (not (same_prefix (prefix_as (prefix_of r)) q)) e).0

pub not_enclosing : (q : Prefix) (r : Numbered) → vrp_covers q r ≡ false → encloses q r ≡ false
not_enclosing q r c = ap (λ b. b && not (same_prefix (prefix_as (prefix_of r)) q)) c

pub not_enclosing_same : (q : Prefix) (r : Numbered) → prefix_as (prefix_of r) ≡ q → encloses q r ≡ false
not_enclosing_same q r e = by_tests (vrp_covers q r) (same_prefix (prefix_as (prefix_of r)) q) (ap (same_prefix (prefix_as (prefix_of r))) (sym e) ∙ same_prefix_itself (prefix_as (prefix_of r)))
  where
    by_tests : (a b : Bool) → b ≡ true → (a && not b) ≡ false
    by_tests true true x = refl
    by_tests false true x = refl
    by_tests a false x = cc

-- ---- the walk by links

-- of the first `count` none from `at` on covers q
pub record Behind (q : Prefix) (sorted : List Numbered) (count at : ℕ) : Type 0 where
  pub few : at ≤ count
  pub none : (i : ℕ) (r : Numbered) → at ≤ i → i < count → vrp_covers q (get_or sorted i r) ≡ false

pub behind_start : (q : Prefix) (sorted : List Numbered) (count : ℕ) → Behind q sorted count count
behind_start q sorted count = record { few = omega arith; none = λ i r h k. absurd (omega arith) }

-- whatever covers q before a VRP that doesn't encloses that VRP's prefix
skipped : (q : Prefix) (sorted : List Numbered) (k i : ℕ) (r : Numbered) → IsPrefix q → AreSorted sorted → k < length sorted → UpTo (at_place sorted k r) q → vrp_covers q (get_or sorted k r) ≡ false → i < k
    → encloses (at_place sorted k r) (get_or sorted i r) ≡ false → vrp_covers q (get_or sorted i r) ≡ false
skipped q sorted k i r fit s some up fails lt e = not_true (vrp_covers q (get_or sorted i r)) λ is.
    let on : vrp_covers (at_place sorted k r) (get_or sorted i r) ≡ true = between (at_place sorted i r) (at_place sorted k r) q (fits sorted i r) (fits sorted k r) fit (rise sorted i k r s (omega arith) some) up is in
    let same : at_place sorted i r ≡ at_place sorted k r = has_from (at_place sorted k r) (get_or sorted i r) on e in
    apart (vrp_covers q (get_or sorted k r)) (ap (is_within q) (sym same) ∙ is) fails

pub behind_more : (q : Prefix) (sorted : List Numbered) (links : List ℕ) (count at : ℕ) (r : Numbered) → IsPrefix q → AreSorted sorted → AreLinked sorted count links → AreUpTo q sorted count → 0 < at
    → ((d : Numbered) → vrp_covers q (get_or sorted (at - 1) d) ≡ false) → Behind q sorted count at → Behind q sorted count (get_or links (at - 1) 0) × (get_or links (at - 1) 0 < at)
behind_more q sorted links count at r fit s linked up some fails b =
    let few : at ≤ count = b.few in
    let last = linked.each (at - 1) r (omega arith) in (
      record {
        few = omega (arith, last.few);
        none = λ i d h k. elim (cases_lt i at) [
          | inr old ↦ b.none i d old k
          | inl new ↦ elim (cases_eq i (at - 1)) [
            | inl e ↦ subst (λ n. vrp_covers q (get_or sorted n d) ≡ false) (sym e) (fails d)
            | inr ne ↦ one i d h (omega arith) ne
          ]
        ];
      },
      omega (arith, last.few),
    )
  where
    below : (i n : ℕ) → i ≤ n → i ≢ n → i < n
    below i n h ne = elim (cases_lt i n) [
      | inl lt ↦ lt
      | inr le ↦ absurd (ne (omega arith))
    ]

    one : (i : ℕ) (d : Numbered) → get_or links (at - 1) 0 ≤ i → i ≤ at - 1 → i ≢ at - 1 → vrp_covers q (get_or sorted i d) ≡ false
    one i d h k ne =
        let few : at ≤ count = b.few in
        let all : count ≤ length sorted = up.few in
        let lt : i < at - 1 = below i (at - 1) k ne in
        skipped q sorted (at - 1) i d fit s (omega arith) (up_from_le (at_place sorted (at - 1) d) q (up.each (at - 1) d (omega arith))) (fails d) lt ((linked.each (at - 1) d (omega arith)).none i d h lt)

pub last_from : (q : Prefix) (sorted : List Numbered) (count at : ℕ) → Behind q sorted count at → ((r : Numbered) → 0 < at → vrp_covers q (get_or sorted (at - 1) r) ≡ true) → IsLast (vrp_covers q) sorted count at
last_from q sorted count at b passes = record { few = b.few; passes = passes; none = b.none }

-- ---- the place from which the walk goes

-- those before a VRP stand up to its prefix
pub up_before : (sorted : List Numbered) (place : ℕ) (r : Numbered) → AreSorted sorted → place < length sorted → AreUpTo (at_place sorted place r) sorted place
up_before sorted place r s h = record {
  few = omega arith;
  each = λ i d k. le_from_up (at_place sorted i d) (at_place sorted place r) (subst (λ p. UpTo (at_place sorted i d) p) (prefix_at sorted place d r h) (rise sorted i place d s (omega arith) h));
}

pub parted : (q : Prefix) (sorted : List Numbered) → AreSorted sorted → IsPartitionedBy (stands_up_to q) sorted
parted q sorted s i j r h k e = le_from_up (at_place sorted i r) q (up_through (at_place sorted i r) (at_place sorted j r) q (rise sorted i j r s h k) (up_from_le (at_place sorted j r) q e))

pub up_to_place : (q : Prefix) (sorted : List Numbered) (n : ℕ) → n ≤ length sorted → IsVrpPlace q sorted n → AreUpTo q sorted n
up_to_place q sorted n few place = record { few = few; each = λ i r h. place.0 i r (omega arith) h }

-- none behind the place covers it
pub last_of_all : (q : Prefix) (sorted : List Numbered) (n at : ℕ) → IsPrefix q → n ≤ length sorted → IsVrpPlace q sorted n → IsLast (vrp_covers q) sorted n at → IsLast (vrp_covers q) sorted (length sorted) at
last_of_all q sorted n at fit few place last = record {
  few = omega (arith, last.few);
  passes = last.passes;
  none = λ i r h k. elim (cases_lt i n) [
    | inl lt ↦ last.none i r h lt
    | inr ge ↦ not_true (vrp_covers q (get_or sorted i r)) λ is. apart (stands_up_to q (get_or sorted i r)) (le_from_up (at_place sorted i r) q (container_up (at_place sorted i r) q (fits sorted i r) fit is)) (place.1 i r ge k)
  ];
}

-- ---- links

-- one of the same prefix stands before it: both have one link
pub link_shared : (sorted : List Numbered) (links : List ℕ) (place at : ℕ) (q : Prefix) (r : Numbered) → AreLinked sorted place links → 0 < at → IsLast (vrp_covers q) sorted place at → ((d : Numbered) → at_place sorted (at - 1) d ≡ q) → IsLast (encloses q) sorted place (get_or links (at - 1) 0)
link_shared sorted links place at q r linked some last same =
    let few : at ≤ place = last.few in
    let own : (d : Numbered) → IsLast (encloses q) sorted (at - 1) (get_or links (at - 1) 0) = λ d. subst (λ p. IsLast (encloses p) sorted (at - 1) (get_or links (at - 1) 0)) (same d) (linked.each (at - 1) d (omega arith)) in
    record {
      few = omega (arith, (own r).few);
      passes = (own r).passes;
      none = λ i d h k. elim (cases_lt i (at - 1)) [
        | inl lt ↦ (own d).none i d h lt
        | inr ge ↦ elim (cases_eq i (at - 1)) [
          | inl e ↦ subst (λ n. encloses q (get_or sorted n d) ≡ false) (sym e) (not_enclosing_same q (get_or sorted (at - 1) d) (same d))
          | inr ne ↦ not_enclosing q (get_or sorted i d) (last.none i d (above i ge ne) k)
        ]
      ];
    }
  where
    above : (i : ℕ) → at - 1 ≤ i → i ≢ at - 1 → at ≤ i
    above i ge ne = elim (cases_lt i at) [
      | inl lt ↦ absurd (ne (omega arith))
      | inr h ↦ h
    ]

-- none of the same prefix stands before it
pub link_own : (sorted : List Numbered) (place at : ℕ) (q : Prefix) → IsLast (vrp_covers q) sorted place at → ((d : Numbered) → 0 < at → same_prefix (at_place sorted (at - 1) d) q ≡ false) → IsLast (encloses q) sorted place at
link_own sorted place at q last differs = record {
  few = last.few;
  passes = λ r h. and_from (vrp_covers q (get_or sorted (at - 1) r)) (not (same_prefix (at_place sorted (at - 1) r) q)) (last.passes r h) (ap not (differs r h));
  none = λ i r h k. not_enclosing q (get_or sorted i r) (last.none i r h k);
}

pub linked_start : (sorted : List Numbered) (links : List ℕ) → AreLinked sorted 0 links
linked_start sorted links = record { many = omega arith; each = λ i r h. absurd (omega arith) }

-- ---- from one that covers a prefix to the one before it

pub before_same : (sorted : List Numbered) (at : ℕ) (q : Prefix) → ((d : Numbered) → vrp_covers q (get_or sorted (at - 2) d) ≡ true) → 1 < at → IsLast (vrp_covers q) sorted (at - 1) (at - 1)
before_same sorted at q is h = record {
  few = omega arith;
  passes = λ r k. subst (λ n. vrp_covers q (get_or sorted n r) ≡ true) (let e : at - 2 ≡ at - 1 - 1 = omega arith in e) (is r);
  none = λ i r a b. absurd (omega arith);
}

pub before_linked : (sorted : List Numbered) (links : List ℕ) (at : ℕ) (q : Prefix) → IsPrefix q → AreSorted sorted → AreLinked sorted (length sorted) links → 0 < at → at ≤ length sorted → ((d : Numbered) → vrp_covers q (get_or sorted (at - 1) d) ≡ true)
    → ((d : Numbered) → 1 < at → same_prefix (at_place sorted (at - 2) d) (at_place sorted (at - 1) d) ≡ false) → IsLast (vrp_covers q) sorted (at - 1) (get_or links (at - 1) 0)
before_linked sorted links at q fit s linked some few is differs = record {
  few = (own (get_some sorted some few)).few;
  passes = λ r h. within_through (at_place sorted (get_or links (at - 1) 0 - 1) r) (at_place sorted (at - 1) r) q (encloses_parts (at_place sorted (at - 1) r) (get_or sorted (get_or links (at - 1) 0 - 1) r) ((own r).passes r h)) (is r);
  none = λ i r h k. not_true (vrp_covers q (get_or sorted i r)) λ is_on. clash i r h k is_on;
}
  where
    get_some : (xs : List Numbered) → 0 < at → at ≤ length xs → Numbered
    get_some [] h k = absurd (omega arith)
    get_some (x ∷ xs) h k = x

    own : (r : Numbered) → IsLast (encloses (at_place sorted (at - 1) r)) sorted (at - 1) (get_or links (at - 1) 0)
    own r = linked.each (at - 1) r (omega arith)

    clash : (i : ℕ) (r : Numbered) → get_or links (at - 1) 0 ≤ i → i < at - 1 → vrp_covers q (get_or sorted i r) ≡ true → ⊥
    clash i r h k on_q =
        let here = at_place sorted (at - 1) r in
        let one : UpTo (at_place sorted i r) here = rise sorted i (at - 1) r s (omega arith) (omega arith) in
        let on = between (at_place sorted i r) here q (fits sorted i r) (fits sorted (at - 1) r) fit one (container_up here q (fits sorted (at - 1) r) fit (is r)) on_q in
        let same : at_place sorted i r ≡ here = has_from here (get_or sorted i r) on ((own r).none i r h k) in
        let up : UpTo here (at_place sorted (at - 2) r) = subst (λ p. UpTo p (at_place sorted (at - 2) r)) same (rise sorted i (at - 2) r s (omega arith) (omega arith)) in
        let next : UpTo (at_place sorted (at - 2) r) here = rise sorted (at - 2) (at - 1) r s (omega arith) (omega arith) in
        let equal : at_place sorted (at - 2) r ≡ here = one_from_up (at_place sorted (at - 2) r) here (fits sorted (at - 2) r) (fits sorted (at - 1) r) next up in
        apart (same_prefix (at_place sorted (at - 2) r) here) (ap (same_prefix (at_place sorted (at - 2) r)) (sym equal) ∙ same_prefix_itself (at_place sorted (at - 2) r)) (differs r (omega arith))

-- ---- more and fewer links

pub linked_fewer : (sorted : List Numbered) (links : List ℕ) (n count : ℕ) → n ≤ count → AreLinked sorted count links → AreLinked sorted n links
linked_fewer sorted links n count h linked = let many : count ≤ length links = linked.many in record { many = omega arith; each = λ i r k. linked.each i r (omega arith) }

pub linked_more : (sorted : List Numbered) (links : List ℕ) (place link : ℕ) → length links ≡ place → ((r : Numbered) → IsLast (encloses (at_place sorted place r)) sorted place link) → AreLinked sorted place links → AreLinked sorted (place + 1) (links ++ link ∷ [])
linked_more sorted links place link many last linked = record {
  many = omega (arith, length-append links (link ∷ []));
  each = λ i r h. elim (cases_eq i place) [
    | inl e ↦ let is : get_or (links ++ link ∷ []) i 0 ≡ link = ap (λ n. get_or (links ++ link ∷ []) n 0) (e ∙ sym many) ∙ get_or_push links link 0 (length links) refl in
        subst (λ n. IsLast (encloses (at_place sorted i r)) sorted i n) (sym is) (subst (λ n. IsLast (encloses (at_place sorted n r)) sorted n link) (sym e) (last r))
    | inr ne ↦ let lt = below i (omega arith) ne in subst (λ n. IsLast (encloses (at_place sorted i r)) sorted i n) (sym (get_or_append_left links (link ∷ []) 0 i (omega arith))) (linked.each i r lt)
  ];
}
  where
    below : (i : ℕ) → i ≤ place → i ≢ place → i < place
    below i h ne = elim (cases_lt i place) [
      | inl lt ↦ lt
      | inr le ↦ absurd (ne (omega arith))
    ]
