-- The hops that answers name, by their numbers, as more hops get numbers.
use Rattle.std.proofs.Common.{◌≡◌, ℕ, zero, suc, ◌+◌, ◌<◌, ◌≤◌, List, [], ◌∷◌, ◌++◌, Bool, true, false, cond, Option, Some, None, length, map, nat_eq, refl, sym, ap, ◌∙◌, subst, arith, inl, inr, length-append}
use Rattle.std.specs.Prelude.{◌||◌, ◌⊎◌, fold, flat_map, is_some, option_map, slice_get}
use Rattle.std.specs.Option.{option_or}
use Rattle.std.specs.List.{AllByRecursion, list_any}
use Rattle.std.proofs.lemmas.Bool.{cases_eq, eq-eqb, eqb-true, ne_eqb}
use Rattle.table_model.specs.Address.{Address, Prefix, same_address, same_family}
use Rattle.table_model.specs.declared.family.Family.{Family}
use Rattle.table_model.specs.Entries.{Entries, match_in, of_family}
use Rattle.table_model.specs.Least.{candidates}
use Rattle.table_model.specs.Sets.{is_in}
use Rattle.table_model.specs.Table.{lpm}
use Rattle.table_model.proofs.Laws.{lpm_candidate}
use Rattle.route_model.specs.Events.{Elem, Put, Cut}
use Rattle.route_model.specs.Choice.{after_elems}
use Rattle.kept_model.specs.Feed.{brought, entries_of, hops_after}
use Rattle.kept_model.proofs.Numbers.{entries_have}
use Rattle.fib_addr.specs.Hops.{hop_at, number_of, with_hop}
use Rattle.fib_addr.proofs.HopLists.{brought_number, number_holds, number_range}
use Rattle.table_model.proofs.SamePrefix.{same_address_itself}
use Rattle.fib_engine.specs.Numbers.{brought_by}
use Rattle.router_steps.specs.Hops.{told_hop}

-- ---- numbers stay
with_more : (hops : List Address) (a : Address) → length hops ≤ length (with_hop hops a)
with_more hops a = by_test (list_any (same_address a) hops)
  where
    by_test : (b : Bool) → length hops ≤ length (cond b hops (hops ++ a ∷ []))
    by_test true = omega arith
    by_test false = omega (arith, length-append hops (a ∷ []))

get_front : (xs ys : List Address) (k : ℕ) → k < length xs → slice_get (xs ++ ys) k ≡ slice_get xs k
get_front [] ys k l = absurd (omega (arith, l))
get_front (x ∷ xs) ys zero l = refl
get_front (x ∷ xs) ys (suc k) l = get_front xs ys k (omega (arith, l))

at_front : (xs ys : List Address) (h : ℕ) → h ≤ length xs → hop_at (xs ++ ys) h ≡ hop_at xs h
at_front xs ys zero l = refl
at_front xs ys (suc k) l = get_front xs ys k (omega (arith, l))

with_stays : (hops : List Address) (a : Address) (h : ℕ) → h ≤ length hops → hop_at (with_hop hops a) h ≡ hop_at hops h
with_stays hops a h l = by_test (list_any (same_address a) hops)
  where
    by_test : (b : Bool) → hop_at (cond b hops (hops ++ a ∷ [])) h ≡ hop_at hops h
    by_test true = refl
    by_test false = at_front hops (a ∷ []) h l

folded_more : (hops used : List Address) → length hops ≤ length (fold with_hop hops used)
folded_more hops [] = omega arith
folded_more hops (a ∷ used) = omega (arith, with_more hops a, folded_more (with_hop hops a) used)

folded_stays : (hops used : List Address) (h : ℕ) → h ≤ length hops → hop_at (fold with_hop hops used) h ≡ hop_at hops h
folded_stays hops [] h l = refl
folded_stays hops (a ∷ used) h l = folded_stays (with_hop hops a) used h (omega (arith, l, with_more hops a)) ∙ with_stays hops a h l

pub more_hops : (hops : List Address) (elems : List Elem) → length hops ≤ length (hops_after hops elems)
more_hops hops elems = folded_more hops (flat_map brought elems)

pub hop_stays : (hops : List Address) (elems : List Elem) (h : ℕ) → h ≤ length hops → hop_at (hops_after hops elems) h ≡ hop_at hops h
hop_stays hops elems h l = folded_stays hops (flat_map brought elems) h l

-- ---- answers have numbers
abbrev AtMost : ℕ → List ℕ → Type 0
AtMost n S = AllByRecursion (λ h. h ≤ n) S

one_of : (n : ℕ) (S : List ℕ) (h : ℕ) → is_in h S ≡ true → AtMost n S → h ≤ n
one_of n [] h e a = absurd cc
one_of n (g ∷ S) h e a = by_test (nat_eq g h) refl e (λ x. one_of n S h x a.1)
  where
    by_test : (b : Bool) → nat_eq g h ≡ b → (b || is_in h S) ≡ true → (is_in h S ≡ true → h ≤ n) → h ≤ n
    by_test true t x later = subst (λ k. k ≤ n) (eqb-true g h t) a.0
    by_test false t x later = later x

of_family_at_most : (n : ℕ) (f : Family) (R : Entries) → AllByRecursion (λ (e : Prefix × ℕ). (1 ≤ e.1) × (e.1 ≤ n)) R → AtMost n (map (λ e. e.hop) (of_family f R))
of_family_at_most n f [] a = tt
of_family_at_most n f (e ∷ R) a = by_test (same_family f e.0.family) (of_family_at_most n f R a.1)
  where
    by_test : (t : Bool) → AtMost n (map (λ x. x.hop) (of_family f R)) → AtMost n (map (λ x. x.hop) (cond t (record { prefix = e.0.bits; hop = e.1 } ∷ of_family f R) (of_family f R)))
    by_test true more = (a.0.1, more)
    by_test false more = more

match_at_most : (n : ℕ) (R : Entries) (a : Address) → AllByRecursion (λ (e : Prefix × ℕ). (1 ≤ e.1) × (e.1 ≤ n)) R → match_in R a ≤ n
match_at_most n R a l = one_of n (candidates (of_family a.family R)) (lpm (of_family a.family R) a.bits 0) (lpm_candidate (of_family a.family R) a.bits) (omega arith, of_family_at_most n a.family R l)

pub answer_at_most : (elems : List Elem) (a : Address) → match_in (entries_of (hops_after [] elems) (after_elems [] elems)) a ≤ length (hops_after [] elems)
answer_at_most elems a = match_at_most (length (hops_after [] elems)) (entries_of (hops_after [] elems) (after_elems [] elems)) a (entries_have elems)

pub le_or : (n k : ℕ) → (k ≤ n) ⊎ (n < k)
le_or zero zero = inl (omega arith)
le_or zero (suc k) = inr (omega arith)
le_or (suc n) zero = inl (omega arith)
le_or (suc n) (suc k) = elim (le_or n k) [
  | inl q ↦ inl (omega (arith, q))
  | inr q ↦ inr (omega (arith, q))
]

-- ---- the hop that an event brings
-- at the end, or nowhere else
both_suc : (n m : ℕ) → nat_eq n m ≡ nat_eq (suc n) (suc m)
both_suc n m = elim (cases_eq n m) [
  | inl e ↦ eq-eqb n m e ∙ sym (eq-eqb (suc n) (suc m) (ap suc e))
  | inr e ↦ ne_eqb n m e ∙ sym (ne_eqb (suc n) (suc m) (λ q. e (omega (arith, q))))
]

pushed : (hops : List Address) (a : Address) (k : ℕ) → slice_get (hops ++ a ∷ []) k ≡ option_or (slice_get hops k) (cond (nat_eq (length hops) k) (Some a) None)
pushed [] a zero = refl
pushed [] a (suc k) = ap (λ (b : Bool). cond b (Some a) None) (sym (ne_eqb 0 (suc k) (λ e. omega (arith, e))))
pushed (x ∷ hops) a zero = refl
pushed (x ∷ hops) a (suc k) = pushed hops a k ∙ ap (λ (b : Bool). option_or (slice_get hops k) (cond b (Some a) None)) (both_suc (length hops) k)

at_pushed : (hops : List Address) (a : Address) (h : ℕ) → hop_at (hops ++ a ∷ []) h ≡ option_or (hop_at hops h) (cond (nat_eq (length hops + 1) h) (Some a) None)
at_pushed hops a zero = ap (λ (b : Bool). cond b (Some a) None) (sym (ne_eqb (length hops + 1) 0 (λ e. omega (arith, e))))
at_pushed hops a (suc k) = pushed hops a k ∙ ap (λ (b : Bool). option_or (slice_get hops k) (cond b (Some a) None)) (both_suc (length hops) k ∙ ap (λ (j : ℕ). nat_eq j (suc k)) (one (length hops)))
  where
    one : (n : ℕ) → suc n ≡ n + 1
    one n = omega arith

none_or : (o : Option Address) → o ≡ option_or o None
none_or None = refl
none_or (Some x) = refl

or_true : (b r : Bool) → r ≡ true → b || r ≡ true
or_true true r e = refl
or_true false r e = e

held_in : (hops : List Address) (a : Address) (k : ℕ) → slice_get hops k ≡ Some a → list_any (same_address a) hops ≡ true
held_in [] a k e = absurd (cc)
held_in (x ∷ hops) a zero e = let q : x ≡ a = cc in ap (λ (y : Address). same_address a y || list_any (same_address a) hops) q ∙ ap (λ (b : Bool). b || list_any (same_address a) hops) (same_address_itself a)
held_in (x ∷ hops) a (suc k) e = or_true (same_address a x) (list_any (same_address a) hops) (held_in hops a k e)

held_at : (hops : List Address) (a : Address) (n : ℕ) → hop_at hops n ≡ Some a → list_any (same_address a) hops ≡ true
held_at hops a zero e = absurd (cc)
held_at hops a (suc k) e = held_in hops a k e

module _ (hops : List Address) (a : Address) where
  abbrev Told : Option ℕ → List Address → ℕ → Type 0
  Told o later h = hop_at later h ≡ told_hop hops (cond (is_some o) None (option_map (λ n. (n, a)) (number_of later a))) h

  told_held : list_any (same_address a) hops ≡ true → (h : ℕ) → Told (number_of hops a) (with_hop hops a) h
  told_held t h =
      let w : with_hop hops a ≡ hops = ap (λ (b : Bool). cond b hops (hops ++ a ∷ [])) t in
      let n = brought_number hops a in
      let m : number_of hops a ≡ Some n.0 = ap (λ (l : List Address). number_of l a) (sym w) ∙ n.1 in
      subst (λ (l : List Address). Told (number_of hops a) l h) (sym w) (subst (λ (o : Option ℕ). Told o hops h) (sym m) (none_or (hop_at hops h)))

  no_number : list_any (same_address a) hops ≡ false → (o : Option ℕ) → number_of hops a ≡ o → o ≡ None
  no_number t None e = refl
  no_number t (Some n) e = let z : list_any (same_address a) hops ≡ true = held_at hops a n (number_holds hops a n e) in absurd (cc)

  told_new : list_any (same_address a) hops ≡ false → (h : ℕ) → Told (number_of hops a) (with_hop hops a) h
  told_new t h =
      let w : with_hop hops a ≡ hops ++ a ∷ [] = ap (λ (b : Bool). cond b hops (hops ++ a ∷ [])) t in
      let n = brought_number hops a in
      let m : number_of (hops ++ a ∷ []) a ≡ Some n.0 = ap (λ (l : List Address). number_of l a) (sym w) ∙ n.1 in
      let r = number_range (hops ++ a ∷ []) a n.0 m in
      let last : n.0 ≡ length hops + 1 = last_of n.0 (number_holds (hops ++ a ∷ []) a n.0 m) (omega (arith, r.1, length-append hops (a ∷ []))) in
      let number : number_of (hops ++ a ∷ []) a ≡ Some (length hops + 1) = m ∙ ap (λ (k : ℕ). Some k) last in
      subst (λ (l : List Address). Told (number_of hops a) l h) (sym w)
      (subst (λ (o : Option ℕ). Told o (hops ++ a ∷ []) h) (sym (no_number t (number_of hops a) refl))
      (subst (λ (o : Option ℕ). hop_at (hops ++ a ∷ []) h ≡ told_hop hops (option_map (λ n. (n, a)) o) h) (sym number) (at_pushed hops a h)))
    where
      last_of : (k : ℕ) → hop_at (hops ++ a ∷ []) k ≡ Some a → k ≤ length hops + 1 → k ≡ length hops + 1
      last_of k e l = elim (le_or (length hops) k) [
        | inl q ↦ (let z : list_any (same_address a) hops ≡ true = held_at hops a k (sym (at_front hops (a ∷ []) k q) ∙ e) in absurd (cc))
        | inr q ↦ omega (arith, q, l)
      ]

  told_put : (h : ℕ) → Told (number_of hops a) (with_hop hops a) h
  told_put h = by_test (list_any (same_address a) hops) refl
    where
      by_test : (b : Bool) → list_any (same_address a) hops ≡ b → Told (number_of hops a) (with_hop hops a) h
      by_test true t = told_held t h
      by_test false t = told_new t h

-- the hop of each number after the event
pub told_by : (hops : List Address) (e : Elem) (h : ℕ) → hop_at (hops_after hops (e ∷ [])) h ≡ told_hop hops (brought_by hops e) h
told_by hops (Put via prefix path hop) h = told_put hops hop h
told_by hops (Cut via prefix) h = none_or (hop_at hops h)

pub told_none : (hops : List Address) (h : ℕ) → hop_at hops h ≡ told_hop hops None h
told_none hops h = none_or (hop_at hops h)
