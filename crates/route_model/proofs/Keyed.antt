-- Entries in strict order of their keys, for keys that their order tells apart.
use Rattle.std.proofs.Common.{◌≡◌, List, [], ◌∷◌, Bool, true, false, cond, Option, Some, None, refl, sym, ap, subst, ◌∙◌}
use Rattle.std.specs.Prelude.{◌||◌}
use Rattle.std.specs.Cmp.{IsTotalOrder}
use Rattle.std.specs.List.{AllByRecursion, filter, list_any}
use Rattle.std.specs.List.Sorted.{IsStrictlySortedBy}
use Rattle.std.specs.Map.{lookup, keys_of, remove_entry}
use Rattle.std.specs.BTreeMap.{insert_entry}
use Rattle.std.specs.Option.{option_and_then}
use Rattle.std.specs.Ordering.{match_ordering, ordering_reverse, is_eq}
use Rattle.std.specs.declared.cmp.Ordering.{Ordering}
use Rattle.std.specs.declared.cmp.Ordering.TheVariants.{Less, Equal, Greater}
use Rattle.std.proofs.lemmas.Bool.{or_parts}
use Rattle.std.proofs.lemmas.Cmp.{tied_itself}

-- an order of keys, a test of two keys, and what the keys at hand meet
pub record IsKey {K : Type 0} (R : K → K → Ordering) (E : K → K → Bool) (P : K → Type 0) : Type 0 where
  pub total : IsTotalOrder R
  pub exact : (p q : K) → P p → P q → R p q ≡ Equal → p ≡ q
  pub same : (p q : K) → E p q ≡ true → p ≡ q
  pub itself : (p : K) → E p p ≡ true

less_back : {K : Type 0} {R : K → K → Ordering} {E : K → K → Bool} {P : K → Type 0} (laws : IsKey R E P) (p q : K) → R p q ≡ Greater → R q p ≡ Less
less_back laws p q e = laws.total.antisymm q p ∙ ap ordering_reverse e

pub not_same_less : {K : Type 0} {R : K → K → Ordering} {E : K → K → Bool} {P : K → Type 0} (laws : IsKey R E P) (p q : K) → R p q ≡ Less → E p q ≡ false
not_same_less {R = R} {E = E} laws p q e = by_test (E p q) refl
  where
    by_test : (b : Bool) → E p q ≡ b → b ≡ false
    by_test true t = let s : p ≡ q = laws.same p q t in let i : R q q ≡ Equal = tied_itself laws.total q in let j : R q q ≡ Less = ap (λ x. R x q) (sym s) ∙ e in absurd cc
    by_test false t = refl

pub not_same_greater : {K : Type 0} {R : K → K → Ordering} {E : K → K → Bool} {P : K → Type 0} (laws : IsKey R E P) (p q : K) → R p q ≡ Less → E q p ≡ false
not_same_greater {R = R} {E = E} laws p q e = by_test (E q p) refl
  where
    by_test : (b : Bool) → E q p ≡ b → b ≡ false
    by_test true t = let s : q ≡ p = laws.same q p t in let i : R q q ≡ Equal = tied_itself laws.total q in let j : R q q ≡ Less = ap (λ x. R x q) s ∙ e in absurd cc
    by_test false t = refl

-- ---- entries with one put in

pub all_put : {K X : Type 0} (R : K → K → Ordering) (P : K → Type 0) (es : List (K × X)) (k : K) (v : X) → AllByRecursion P (keys_of es) → P k → AllByRecursion P (keys_of (insert_entry R es k v))
all_put R P [] k v a x = (x, tt)
all_put {X = X} R P (e ∷ es) k v a x = by_order (R k e.0) (all_put R P es k v a.1 x)
  where
    by_order : (o : Ordering) → AllByRecursion P (keys_of (insert_entry R es k v)) → AllByRecursion P (keys_of (match_ordering o ((k, v) ∷ e ∷ es) ((e.0, v) ∷ es) (e ∷ insert_entry R es k v)))
    by_order Less more = (x, a)
    by_order Equal more = a
    by_order Greater more = (a.0, more)

all_after : {K X : Type 0} {R : K → K → Ordering} {E : K → K → Bool} {P : K → Type 0} (laws : IsKey R E P) (p q : K) (es : List (K × X)) → R p q ≡ Less → AllByRecursion (λ r. R q r ≡ Less) (keys_of es) → AllByRecursion (λ r. R p r ≡ Less) (keys_of es)
all_after laws p q [] h a = tt
all_after laws p q (e ∷ es) h a = (laws.total.trans p q e.0 h a.0, all_after laws p q es h a.1)

pub sorted_put : {K X : Type 0} {R : K → K → Ordering} {E : K → K → Bool} {P : K → Type 0} (laws : IsKey R E P) (es : List (K × X)) (k : K) (v : X) → IsStrictlySortedBy R (keys_of es) → IsStrictlySortedBy R (keys_of (insert_entry R es k v))
unfolding IsStrictlySortedBy
sorted_put laws [] k v s = (tt, tt)
sorted_put {X = X} {R = R} laws (e ∷ es) k v s = by_order (R k e.0) refl (sorted_put laws es k v s.1)
  where
    by_order : (o : Ordering) → R k e.0 ≡ o → IsStrictlySortedBy R (keys_of (insert_entry R es k v)) → IsStrictlySortedBy R (keys_of (match_ordering o ((k, v) ∷ e ∷ es) ((e.0, v) ∷ es) (e ∷ insert_entry R es k v)))
    by_order Less c more = ((c, all_after laws k e.0 es c s.0), s)
    by_order Equal c more = s
    by_order Greater c more = (all_put R (λ r. R e.0 r ≡ Less) es k v s.0 (less_back laws k e.0 c), more)

pub lookup-put : {K X : Type 0} {R : K → K → Ordering} {E : K → K → Bool} {P : K → Type 0} (laws : IsKey R E P) (q : K) (es : List (K × X)) (k : K) (v : X) → AllByRecursion P (keys_of es) → P k → lookup (E q) (insert_entry R es k v) ≡ cond (E q k) (Some v) (lookup (E q) es)
lookup-put laws q [] k v a x = refl
lookup-put {X = X} {R = R} {E = E} laws q (e ∷ es) k v a x = by_order (R k e.0) refl (lookup-put laws q es k v a.1 x)
  where
    twice : (b : Bool) (u w : X) (r : Option X) → cond b (Some u) r ≡ cond b (Some u) (cond b (Some w) r)
    twice true u w r = refl
    twice false u w r = refl

    swapped : (b c : Bool) (u w : X) (r : Option X) → (b ≡ true → c ≡ false) → cond b (Some u) (cond c (Some w) r) ≡ cond c (Some w) (cond b (Some u) r)
    swapped true true u w r h = let f : true ≡ false = h refl in absurd cc
    swapped true false u w r h = refl
    swapped false c u w r h = refl

    apart : R k e.0 ≡ Greater → E q e.0 ≡ true → E q k ≡ false
    apart c t = ap (λ y. E y k) (laws.same q e.0 t) ∙ not_same_less laws e.0 k (less_back laws k e.0 c)

    by_order : (o : Ordering) → R k e.0 ≡ o → lookup (E q) (insert_entry R es k v) ≡ cond (E q k) (Some v) (lookup (E q) es)
        → lookup (E q) (match_ordering o ((k, v) ∷ e ∷ es) ((e.0, v) ∷ es) (e ∷ insert_entry R es k v)) ≡ cond (E q k) (Some v) (lookup (E q) (e ∷ es))
    by_order Less c ih = refl
    by_order Equal c ih =
        let h : k ≡ e.0 = laws.exact k e.0 x a.0 c in
        twice (E q e.0) v e.1 (lookup (E q) es) ∙ ap (λ y. cond (E q y) (Some v) (lookup (E q) (e ∷ es))) (sym h)
    by_order Greater c ih = ap (cond (E q e.0) (Some e.1)) ih ∙ swapped (E q e.0) (E q k) e.1 v (lookup (E q) es) (apart c)

-- ---- entries with one removed

pub all_cut : {K X : Type 0} (test : K → Bool) (P : K → Type 0) (es : List (K × X)) → AllByRecursion P (keys_of es) → AllByRecursion P (keys_of (remove_entry test es))
all_cut test P [] a = tt
all_cut test P (e ∷ es) a = by_test (test e.0) (all_cut test P es a.1)
  where
    by_test : (b : Bool) → AllByRecursion P (keys_of (remove_entry test es)) → AllByRecursion P (keys_of (cond b es (e ∷ remove_entry test es)))
    by_test true more = a.1
    by_test false more = (a.0, more)

pub sorted_cut : {K X : Type 0} (R : K → K → Ordering) (test : K → Bool) (es : List (K × X)) → IsStrictlySortedBy R (keys_of es) → IsStrictlySortedBy R (keys_of (remove_entry test es))
unfolding IsStrictlySortedBy
sorted_cut R test [] s = tt
sorted_cut R test (e ∷ es) s = by_test (test e.0) (sorted_cut R test es s.1)
  where
    by_test : (b : Bool) → IsStrictlySortedBy R (keys_of (remove_entry test es)) → IsStrictlySortedBy R (keys_of (cond b es (e ∷ remove_entry test es)))
    by_test true more = s.1
    by_test false more = (all_cut test (λ r. R e.0 r ≡ Less) es s.0, more)

-- a key below all others isn't there
pub lookup-below : {K X : Type 0} {R : K → K → Ordering} {E : K → K → Bool} {P : K → Type 0} (laws : IsKey R E P) (q : K) (es : List (K × X)) → AllByRecursion (λ r. R q r ≡ Less) (keys_of es) → lookup (E q) es ≡ None
lookup-below laws q [] a = refl
lookup-below {E = E} laws q (e ∷ es) a = ap (λ b. cond b (Some e.1) (lookup (E q) es)) (not_same_less laws q e.0 a.0) ∙ lookup-below laws q es a.1

pub lookup-cut : {K X : Type 0} {R : K → K → Ordering} {E : K → K → Bool} {P : K → Type 0} (laws : IsKey R E P) (q k : K) (es : List (K × X)) → IsStrictlySortedBy R (keys_of es) → lookup (E q) (remove_entry (E k) es) ≡ cond (E q k) None (lookup (E q) es)
unfolding IsStrictlySortedBy
lookup-cut {X = X} {E = E} laws q k [] s = none (E q k)
  where
    none : (b : Bool) → ◌≡◌ {A = Option X} None (cond b None None)
    none true = refl
    none false = refl
lookup-cut {X = X} {R = R} {E = E} laws q k (e ∷ es) s = by_test (E k e.0) refl (E q k) refl (lookup-cut laws q k es s.1)
  where
    at_itself : q ≡ k → E q k ≡ true
    at_itself h = ap (λ y. E y k) h ∙ laws.itself k

    by_test : (b : Bool) → E k e.0 ≡ b → (d : Bool) → E q k ≡ d → lookup (E q) (remove_entry (E k) es) ≡ cond (E q k) None (lookup (E q) es)
        → lookup (E q) (cond b es (e ∷ remove_entry (E k) es)) ≡ cond d None (lookup (E q) (e ∷ es))
    by_test true t true u ih =
        let h : q ≡ e.0 = laws.same q k u ∙ laws.same k e.0 t in
        ap (λ y. lookup (E y) es) h ∙ lookup-below laws e.0 es s.0
    by_test true t false u ih =
        let h : k ≡ e.0 = laws.same k e.0 t in
        ap (λ b. cond b (Some e.1) (lookup (E q) es)) (sym u ∙ ap (E q) h)
    by_test false t true u ih =
        let h : q ≡ k = laws.same q k u in
        ap (λ b. cond b (Some e.1) (lookup (E q) (remove_entry (E k) es))) (ap (λ y. E y e.0) h ∙ t) ∙ (ih ∙ ap (λ b. cond b None (lookup (E q) es)) u)
    by_test false t false u ih = ap (cond (E q e.0) (Some e.1)) (ih ∙ ap (λ b. cond b None (lookup (E q) es)) u)

-- ---- entries that pass a test

pub all_filter : {K X : Type 0} (test : K × X → Bool) (P : K → Type 0) (es : List (K × X)) → AllByRecursion P (keys_of es) → AllByRecursion P (keys_of (filter test es))
all_filter test P [] a = tt
all_filter test P (e ∷ es) a = by_test (test e) (all_filter test P es a.1)
  where
    by_test : (b : Bool) → AllByRecursion P (keys_of (filter test es)) → AllByRecursion P (keys_of (cond b (e ∷ filter test es) (filter test es)))
    by_test true more = (a.0, more)
    by_test false more = more

pub sorted_filter : {K X : Type 0} (R : K → K → Ordering) (test : K × X → Bool) (es : List (K × X)) → IsStrictlySortedBy R (keys_of es) → IsStrictlySortedBy R (keys_of (filter test es))
unfolding IsStrictlySortedBy
sorted_filter R test [] s = tt
sorted_filter R test (e ∷ es) s = by_test (test e) (sorted_filter R test es s.1)
  where
    by_test : (b : Bool) → IsStrictlySortedBy R (keys_of (filter test es)) → IsStrictlySortedBy R (keys_of (cond b (e ∷ filter test es) (filter test es)))
    by_test true more = (all_filter test (λ r. R e.0 r ≡ Less) es s.0, more)
    by_test false more = more

pub lookup-filter : {K X : Type 0} {R : K → K → Ordering} {E : K → K → Bool} {P : K → Type 0} (laws : IsKey R E P) (test : K × X → Bool) (q : K) (es : List (K × X)) → IsStrictlySortedBy R (keys_of es) → lookup (E q) (filter test es) ≡ option_and_then (λ v. cond (test (q, v)) (Some v) None) (lookup (E q) es)
unfolding IsStrictlySortedBy
lookup-filter laws test q [] s = refl
lookup-filter {K = K} {X = X} {R = R} {E = E} laws test q (e ∷ es) s = by_test (test e) refl (E q e.0) refl (lookup-filter laws test q es s.1)
  where
    kept : Option X → Option X
    kept o = option_and_then (λ v. cond (test (q, v)) (Some v) None) o

    passes : (b : Bool) → test e ≡ b → q ≡ e.0 → cond (test (q, e.1)) (Some e.1) None ≡ cond b (Some e.1) None
    passes b t h = ap (λ y. cond (test (y, e.1)) (Some e.1) None) h ∙ ap (λ c. cond c (Some e.1) None) t

    by_test : (b : Bool) → test e ≡ b → (d : Bool) → E q e.0 ≡ d → lookup (E q) (filter test es) ≡ kept (lookup (E q) es)
        → lookup (E q) (cond b (e ∷ filter test es) (filter test es)) ≡ kept (cond d (Some e.1) (lookup (E q) es))
    by_test true t true u ih = ap (λ c. cond c (Some e.1) (lookup (E q) (filter test es))) u ∙ sym (passes true t (laws.same q e.0 u))
    by_test true t false u ih = ap (λ c. cond c (Some e.1) (lookup (E q) (filter test es))) u ∙ ih
    by_test false t true u ih =
        let h : q ≡ e.0 = laws.same q e.0 u in
        ap (λ y. lookup (E y) (filter test es)) h ∙ (lookup-below laws e.0 (filter test es) (all_filter test (λ r. R e.0 r ≡ Less) es s.0) ∙ sym (passes false t h))
    by_test false t false u ih = ih

-- ---- what a look-up finds

pub found_meets : {K X : Type 0} {R : K → K → Ordering} {E : K → K → Bool} {P : K → Type 0} (laws : IsKey R E P) (T : K → Type 0) (q : K) (v : X) (es : List (K × X)) → AllByRecursion T (keys_of es) → lookup (E q) es ≡ Some v → T q
found_meets laws T q v [] a h = cc
found_meets {X = X} {E = E} laws T q v (e ∷ es) a h = by_test (E q e.0) refl h (found_meets laws T q v es a.1)
  where
    by_test : (b : Bool) → E q e.0 ≡ b → cond b (Some e.1) (lookup (E q) es) ≡ Some v → (lookup (E q) es ≡ Some v → T q) → T q
    by_test true t x ih = subst T (sym (laws.same q e.0 t)) a.0
    by_test false t x ih = ih x

-- what is found past the first is found
pub found_later : {K X : Type 0} {R : K → K → Ordering} {E : K → K → Bool} {P : K → Type 0} (laws : IsKey R E P) (q : K) (v : X) (e : K × X) (es : List (K × X)) → IsStrictlySortedBy R (keys_of (e ∷ es)) → lookup (E q) es ≡ Some v → lookup (E q) (e ∷ es) ≡ Some v
unfolding IsStrictlySortedBy
found_later {X = X} {R = R} {E = E} laws q v e es s h = ap (λ b. cond b (Some e.1) (lookup (E q) es)) (not_same_greater laws e.0 q (found_meets laws (λ r. R e.0 r ≡ Less) q v es s.0 h)) ∙ h

-- where no entry passes a test, what is found doesn't
pub found_fails : {K X : Type 0} {R : K → K → Ordering} {E : K → K → Bool} {P : K → Type 0} (laws : IsKey R E P) (test : K × X → Bool) (q : K) (v : X) (es : List (K × X)) → list_any test es ≡ false → lookup (E q) es ≡ Some v → test (q, v) ≡ false
found_fails laws test q v [] a h = cc
found_fails {X = X} {E = E} laws test q v (e ∷ es) a h = by_test (E q e.0) refl h (or_parts (test e) (list_any test es) a) (found_fails laws test q v es)
  where
    by_test : (b : Bool) → E q e.0 ≡ b → cond b (Some e.1) (lookup (E q) es) ≡ Some v → (test e ≡ false) × (list_any test es ≡ false) → (list_any test es ≡ false → lookup (E q) es ≡ Some v → test (q, v) ≡ false) → test (q, v) ≡ false
    by_test true t x p ih =
        let i : q ≡ e.0 = laws.same q e.0 t in
        let j : v ≡ e.1 = cc in
        ap (λ y. test (y, v)) i ∙ (ap (λ y. test (e.0, y)) j ∙ p.0)
    by_test false t x p ih = ih p.1 x

-- and where nothing that is found passes, no entry does
pub none_passes : {K X : Type 0} {R : K → K → Ordering} {E : K → K → Bool} {P : K → Type 0} (laws : IsKey R E P) (test : K × X → Bool) (es : List (K × X)) → IsStrictlySortedBy R (keys_of es) → ((q : K) (v : X) → lookup (E q) es ≡ Some v → test (q, v) ≡ false) → list_any test es ≡ false
unfolding IsStrictlySortedBy
none_passes laws test [] s h = refl
none_passes {E = E} laws test (e ∷ es) s h =
    let x : test e ≡ false = h e.0 e.1 (ap (λ b. cond b (Some e.1) (lookup (E e.0) es)) (laws.itself e.0)) in
    let y : list_any test es ≡ false = none_passes laws test es s.1 (λ q v f. h q v (found_later laws q v e es s f)) in
    ap (λ b. b || list_any test es) x ∙ y

-- ---- two lists of entries with the same look-ups are one

pub same_entries : {K X : Type 0} {R : K → K → Ordering} {E : K → K → Bool} {P : K → Type 0} (laws : IsKey R E P) (es fs : List (K × X)) → IsStrictlySortedBy R (keys_of es) → IsStrictlySortedBy R (keys_of fs) → AllByRecursion P (keys_of es) → AllByRecursion P (keys_of fs) → ((q : K) → lookup (E q) es ≡ lookup (E q) fs) → es ≡ fs
unfolding IsStrictlySortedBy
same_entries laws [] [] s t a b h = refl
same_entries {E = E} laws [] (f ∷ fs) s t a b h =
    let x : None ≡ cond (E f.0 f.0) (Some f.1) (lookup (E f.0) fs) = h f.0 in let y : E f.0 f.0 ≡ true = laws.itself f.0 in
    let z : None ≡ Some f.1 = x ∙ ap (λ c. cond c (Some f.1) (lookup (E f.0) fs)) y in absurd cc
same_entries {E = E} laws (e ∷ es) [] s t a b h =
    let x : cond (E e.0 e.0) (Some e.1) (lookup (E e.0) es) ≡ None = h e.0 in let y : E e.0 e.0 ≡ true = laws.itself e.0 in
    let z : Some e.1 ≡ None = ap (λ c. cond c (Some e.1) (lookup (E e.0) es)) (sym y) ∙ x in absurd cc
same_entries {K = K} {X = X} {R = R} {E = E} laws (e ∷ es) (f ∷ fs) s t a b h = by_order (R e.0 f.0) refl (same_entries laws es fs s.1 t.1 a.1 b.1)
  where
    here : (g : K × X) (gs : List (K × X)) → lookup (E g.0) (g ∷ gs) ≡ Some g.1
    here g gs = ap (λ c. cond c (Some g.1) (lookup (E g.0) gs)) (laws.itself g.0)

    tails : e.0 ≡ f.0 → (q : K) → (d : Bool) → E q e.0 ≡ d → lookup (E q) es ≡ lookup (E q) fs
    tails i q true u =
        let j : q ≡ e.0 = laws.same q e.0 u in
        let k : q ≡ f.0 = j ∙ i in
        (ap (λ y. lookup (E y) es) j ∙ lookup-below laws e.0 es s.0) ∙ sym (ap (λ y. lookup (E y) fs) k ∙ lookup-below laws f.0 fs t.0)
    tails i q false u =
        sym (ap (λ c. cond c (Some e.1) (lookup (E q) es)) u) ∙ (h q ∙ ap (λ c. cond c (Some f.1) (lookup (E q) fs)) (ap (E q) (sym i) ∙ u))

    by_order : (o : Ordering) → R e.0 f.0 ≡ o → (((q : K) → lookup (E q) es ≡ lookup (E q) fs) → es ≡ fs) → e ∷ es ≡ f ∷ fs
    by_order Less c ih =
        let z : Some e.1 ≡ None = sym (here e es) ∙ (h e.0 ∙ lookup-below laws e.0 (f ∷ fs) (c, all_after laws e.0 f.0 fs c t.0)) in absurd cc
    by_order Greater c ih =
        let d : R f.0 e.0 ≡ Less = less_back laws e.0 f.0 c in
        let z : Some f.1 ≡ None = sym (here f fs) ∙ (sym (h f.0) ∙ lookup-below laws f.0 (e ∷ es) (d, all_after laws f.0 e.0 es d s.0)) in absurd cc
    by_order Equal c ih =
        let i : e.0 ≡ f.0 = laws.exact e.0 f.0 a.0 b.0 c in
        let v : Some e.1 ≡ Some f.1 = sym (here e es) ∙ (h e.0 ∙ (ap (λ y. lookup (E y) (f ∷ fs)) i ∙ here f fs)) in
        let w : e.1 ≡ f.1 = cc in
        let r : es ≡ fs = ih (λ q. tails i q (E q e.0) refl) in
        ap (λ (x : K). (x, e.1) ∷ es) i ∙ (ap (λ (x : X). (f.0, x) ∷ es) w ∙ ap (λ (gs : List (K × X)). (f.0, f.1) ∷ gs) r)

-- ---- the order says what the test does

pub key_test : {K : Type 0} {R : K → K → Ordering} {E : K → K → Bool} {P : K → Type 0} (laws : IsKey R E P) (p q : K) → P p → P q → is_eq (R p q) ≡ E p q
key_test {R = R} {E = E} laws p q x y = by_test (E p q) refl (R p q) refl
  where
    by_test : (b : Bool) → E p q ≡ b → (o : Ordering) → R p q ≡ o → is_eq o ≡ b
    by_test true t o u = let i : R q q ≡ Equal = tied_itself laws.total q in let j : R p q ≡ Equal = ap (λ z. R z q) (laws.same p q t) ∙ i in ap is_eq (sym u ∙ j)
    by_test false t Less u = refl
    by_test false t Equal u = let i : E p q ≡ true = ap (λ z. E z q) (laws.exact p q x y u) ∙ laws.itself q in absurd cc
    by_test false t Greater u = refl
