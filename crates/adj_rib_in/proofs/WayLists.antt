-- Lists of offers by path source, in strict order, with one put in.
use Rattle.std.proofs.Common.{inl, inr, ◌≡◌, ◌≤◌, ◌<◌, ◌-◌, ℕ, zero, suc, Bool, true, false, cond, [], ◌∷◌, length, get_or, Option, Some, refl, sym, ap, subst, ◌∙◌, arith}
use Rattle.std.specs.Prelude.{slice_set, Result, Ok, Err, MatchResult}
use Rattle.std.specs.List.{AllByRecursion, AllWithin, insert}
use Rattle.std.specs.List.Sorted.{IsStrictlySortedBy}
use Rattle.std.specs.Map.{lookup, keys_of}
use Rattle.std.specs.Ordering.{is_eq, ordering_reverse}
use Rattle.std.specs.BTreeMap.{is_at}
use Rattle.std.specs.declared.cmp.Ordering.{Ordering}
use Rattle.std.specs.declared.cmp.Ordering.TheVariants.{Less, Equal, Greater}
use Rattle.std.proofs.lemmas.Bool.{cases_lt}
use Rattle.std.proofs.lemmas.List.Elements.{at_read}
use Rattle.fib_prefix.specs.Order.{code_via_cmp}
use Rattle.fib_prefix.specs.declared.event.Via.{Via}
use Rattle.adj_rib_in.specs.declared.keys.PathAttrs.{PathAttrs}
use Rattle.adj_rib_in.specs.Ways.{Ways, way_attrs, way_put, IsWayAt, BelongsAt}
use Rattle.adj_rib_in.proofs.Orders.{is_equal, via_total}
use Rattle.adj_rib_in.proofs.Views.{flips}

abbrev IsInOrder : Ways → Type 0
IsInOrder es = IsStrictlySortedBy code_via_cmp (keys_of es)

-- all before a place are less than the key
abbrev pub AreLess : Ways → ℕ → Via → Type 0
AreLess es i k = (j : ℕ) (d : Via × PathAttrs) → j < i → code_via_cmp (get_or es j d).0 k ≡ Less

-- ---- from the one before the place

all_at : (P : Via → Type 0) (es : Ways) → AllByRecursion P (keys_of es) → (j : ℕ) (d : Via × PathAttrs) → j < length es → P (get_or es j d).0
all_at P [] a j d l = absurd (omega (arith, l))
all_at P (e ∷ es) a zero d l = a.0
all_at P (e ∷ es) a (suc j) d l = all_at P es a.1 j d (omega (arith, l))

pub are_less : (es : Ways) (i : ℕ) (k : Via) → IsInOrder es → i ≤ length es → ((j : ℕ) (d : Via × PathAttrs) → suc j ≡ i → code_via_cmp (get_or es j d).0 k ≡ Less) → AreLess es i k
unfolding IsStrictlySortedBy
are_less es zero k s l before j d m = absurd (omega (arith, m))
are_less [] (suc i) k s l before j d m = absurd (omega (arith, l))
are_less (e ∷ es) (suc zero) k s l before zero d m = before 0 d refl
are_less (e ∷ es) (suc (suc i)) k s l before zero d m = via_total.trans e.0 (get_or es i d).0 k (all_at (λ r. code_via_cmp e.0 r ≡ Less) es s.0 i d (omega (arith, l))) (before (suc i) d refl)
are_less (e ∷ es) (suc i) k s l before (suc j) d m = are_less es i k s.1 (omega (arith, l)) (λ n x e. before (suc n) x (ap suc e)) j d (omega (arith, m))

-- those before a place of the list are less than the one at it
pub less_than_it : (es : Ways) (i : ℕ) (d : Via × PathAttrs) → IsInOrder es → i < length es → AreLess es i (get_or es i d).0
unfolding IsStrictlySortedBy
less_than_it [] i d s l j x m = absurd (omega (arith, l))
less_than_it (e ∷ es) zero d s l j x m = absurd (omega (arith, m))
less_than_it (e ∷ es) (suc i) d s l zero x m = all_at (λ r. code_via_cmp e.0 r ≡ Less) es s.0 i d (omega (arith, l))
less_than_it (e ∷ es) (suc i) d s l (suc j) x m = less_than_it es i d s.1 (omega (arith, l)) j x (omega (arith, m))

-- ---- keys

less_back : (p q : Via) → code_via_cmp p q ≡ Greater → code_via_cmp q p ≡ Less
less_back p q e = via_total.antisymm q p ∙ ap ordering_reverse e

all_after : (p q : Via) (es : Ways) → code_via_cmp p q ≡ Less → AllByRecursion (λ r. code_via_cmp q r ≡ Less) (keys_of es) → AllByRecursion (λ r. code_via_cmp p r ≡ Less) (keys_of es)
all_after p q [] h a = tt
all_after p q (e ∷ es) h a = (via_total.trans p q e.0 h a.0, all_after p q es h a.1)

-- not tied to both of two keys
not_both : (p k q : Via) → code_via_cmp p k ≡ Less → is_eq (code_via_cmp q p) ≡ true → is_eq (code_via_cmp k q) ≡ false
not_both p k q h t = flips via_total k q ∙ ap is_eq (via_total.congr q p k (is_equal _ t) ∙ h)

swapped : (b c : Bool) (u w : PathAttrs) (r : Option PathAttrs) → (b ≡ true → c ≡ false) → cond b (Some u) (cond c (Some w) r) ≡ cond c (Some w) (cond b (Some u) r)
swapped true true u w r h = let f : true ≡ false = h refl in absurd cc
swapped true false u w r h = refl
swapped false c u w r h = refl

-- ---- a new key

all_insert : (P : Via → Type 0) (es : Ways) (i : ℕ) (k : Via) (x : PathAttrs) → AllByRecursion P (keys_of es) → P k → AllByRecursion P (keys_of (insert es i (k, x)))
all_insert P [] zero k x a p = (p, tt)
all_insert P [] (suc i) k x a p = (p, tt)
all_insert P (e ∷ es) zero k x a p = (p, a)
all_insert P (e ∷ es) (suc i) k x a p = (a.0, all_insert P es i k x a.1 p)

pub insert_in_order : (es : Ways) (i : ℕ) (k : Via) (x : PathAttrs) → IsInOrder es → i ≤ length es → AreLess es i k → AllWithin (λ e. code_via_cmp e.0 k ≡ Greater) es i (length es) → IsInOrder (insert es i (k, x))
unfolding IsStrictlySortedBy
insert_in_order [] zero k x s l less after = (tt, tt)
insert_in_order [] (suc i) k x s l less after = absurd (omega (arith, l))
insert_in_order (e ∷ es) zero k x s l less after = let h : code_via_cmp k e.0 ≡ Less = less_back e.0 k (after 0 e (omega arith) (omega arith)) in ((h, all_after k e.0 es h s.0), s)
insert_in_order (e ∷ es) (suc i) k x s l less after = (
  all_insert (λ r. code_via_cmp e.0 r ≡ Less) es i k x s.0 (less 0 e (omega arith)),
  insert_in_order es i k x s.1 (omega (arith, l)) (λ j d m. less (suc j) d (omega (arith, m))) (λ j d m n. after (suc j) d (omega (arith, m)) (omega (arith, n))),
)

pub insert_found : (es : Ways) (i : ℕ) (k : Via) (x : PathAttrs) (q : Via) → i ≤ length es → AreLess es i k → lookup (is_at (code_via_cmp q)) (insert es i (k, x)) ≡ cond (is_eq (code_via_cmp k q)) (Some x) (lookup (is_at (code_via_cmp q)) es)
insert_found [] zero k x q l less = ap (λ b. cond b (Some x) (lookup (is_at (code_via_cmp q)) [])) (flips via_total q k)
insert_found [] (suc i) k x q l less = absurd (omega (arith, l))
insert_found (e ∷ es) zero k x q l less = ap (λ b. cond b (Some x) (lookup (is_at (code_via_cmp q)) (e ∷ es))) (flips via_total q k)
insert_found (e ∷ es) (suc i) k x q l less =
    ap (cond (is_eq (code_via_cmp q e.0)) (Some e.1)) (insert_found es i k x q (omega (arith, l)) (λ j d m. less (suc j) d (omega (arith, m))))
    ∙ swapped (is_eq (code_via_cmp q e.0)) (is_eq (code_via_cmp k q)) e.1 x (lookup (is_at (code_via_cmp q)) es) (not_both e.0 k q (less 0 e (omega arith)))

-- ---- a key that is there

pub set_keys : (es : Ways) (i : ℕ) (d : Via × PathAttrs) (p : Via) (x : PathAttrs) → i < length es → p ≡ (get_or es i d).0 → keys_of (slice_set es i (p, x)) ≡ keys_of es
set_keys [] i d p x l e = absurd (omega (arith, l))
set_keys (y ∷ es) zero d p x l e = ap (λ k. k ∷ keys_of es) e
set_keys (y ∷ es) (suc i) d p x l e = ap (λ ks. y.0 ∷ ks) (set_keys es i d p x (omega (arith, l)) e)

pub set_found : (es : Ways) (i : ℕ) (d : Via × PathAttrs) (p k : Via) (x : PathAttrs) (q : Via) → i < length es → p ≡ (get_or es i d).0 → code_via_cmp p k ≡ Equal → AreLess es i p → lookup (is_at (code_via_cmp q)) (slice_set es i (p, x)) ≡ cond (is_eq (code_via_cmp k q)) (Some x) (lookup (is_at (code_via_cmp q)) es)
set_found [] i d p k x q l e t less = absurd (omega (arith, l))
set_found (y ∷ es) zero d p k x q l e t less = ap (λ b. cond b (Some x) (lookup (is_at (code_via_cmp q)) es)) same ∙ (twice (is_eq (code_via_cmp k q)) ∙ ap (λ b. cond (is_eq (code_via_cmp k q)) (Some x) (cond b (Some y.1) (lookup (is_at (code_via_cmp q)) es))) (sym same ∙ ap (λ r. is_eq (code_via_cmp q r)) e))
  where
    same : is_eq (code_via_cmp q p) ≡ is_eq (code_via_cmp k q)
    same = flips via_total q p ∙ ap is_eq (via_total.congr p k q t)

    twice : (b : Bool) → cond b (Some x) (lookup (is_at (code_via_cmp q)) es) ≡ cond b (Some x) (cond b (Some y.1) (lookup (is_at (code_via_cmp q)) es))
    twice true = refl
    twice false = refl
set_found (y ∷ es) (suc i) d p k x q l e t less =
    ap (cond (is_eq (code_via_cmp q y.0)) (Some y.1)) (set_found es i d p k x q (omega (arith, l)) e t (λ j z m. less (suc j) z (omega (arith, m))))
    ∙ swapped (is_eq (code_via_cmp q y.0)) (is_eq (code_via_cmp k q)) y.1 x (lookup (is_at (code_via_cmp q)) es) (λ h. ap is_eq (sym (via_total.congr p k q t)) ∙ not_both y.0 p q (less 0 y (omega arith)) h)

-- the empty list
pub none_in_order : (ws : Ways) → ws ≡ [] → IsStrictlySortedBy code_via_cmp (keys_of ws)
unfolding IsStrictlySortedBy
none_in_order ws e = subst (λ us. IsStrictlySortedBy code_via_cmp (keys_of us)) (sym e) tt

-- ---- the place of a path source

pub goes_behind : (es : Ways) (v : Via) (at : ℕ) (x : Via × PathAttrs) (o : Ordering) → IsStrictlySortedBy code_via_cmp (keys_of es) → 0 < at → at ≤ length es → x ≡ get_or es (at - 1) x → o ≡ code_via_cmp x.0 v → o ≡ Less → AllWithin (λ e. code_via_cmp e.0 v ≡ Greater) es at (length es) → BelongsAt es v at
goes_behind es v at x o s some l is e less after =
    let here = at_read es (λ y. code_via_cmp y.0 v ≡ Less) (at - 1) x (omega (arith, some, l)) is (sym e ∙ less) in
    let before = are_less es at v s l (λ j d h. subst (λ i. code_via_cmp (get_or es i d).0 v ≡ Less) (let k : at - 1 ≡ j = omega (arith, h) in k) (here d)) in
    (l, (λ j d m n. before j d n), after)

pub is_way : (es : Ways) (v : Via) (at : ℕ) (x : Via × PathAttrs) (o : Ordering) → 0 < at → at ≤ length es → x ≡ get_or es (at - 1) x → o ≡ code_via_cmp x.0 v → o ≡ Equal → IsWayAt es v (at - 1)
is_way es v at x o some l is e equal = (omega (arith, some, l), at_read es (λ y. code_via_cmp y.0 v ≡ Equal) (at - 1) x (omega (arith, some, l)) is (sym e ∙ equal))

pub after_more : (es : Ways) (v : Via) (at : ℕ) (x : Via × PathAttrs) (o : Ordering) → 0 < at → at ≤ length es → x ≡ get_or es (at - 1) x → o ≡ code_via_cmp x.0 v → o ≡ Greater → AllWithin (λ e. code_via_cmp e.0 v ≡ Greater) es at (length es) → AllWithin (λ e. code_via_cmp e.0 v ≡ Greater) es (at - 1) (length es)
after_more es v at x o some l is e greater after j d m n = elim (cases_lt j at) [
  | inl h ↦
      let here = at_read es (λ y. code_via_cmp y.0 v ≡ Greater) (at - 1) x (omega (arith, some, l)) is (sym e ∙ greater) in
      subst (λ i. code_via_cmp (get_or es i d).0 v ≡ Greater) (let k : at - 1 ≡ j = omega (arith, h, m) in k) (here d)
  | inr h ↦ after j d h n
]

pub goes_first : (es : Ways) (v : Via) (at : ℕ) → at ≤ 0 → AllWithin (λ e. code_via_cmp e.0 v ≡ Greater) es at (length es) → BelongsAt es v 0
goes_first es v at l after = (omega arith, (λ j d m n. absurd (omega (arith, n))), λ j d m n. after j d (omega (arith, l)) n)

-- ---- an offer put there

abbrev AtPlace : Ways → Via → Result ℕ ℕ → Type 0
AtPlace ways v r = MatchResult r (IsWayAt ways v) (BelongsAt ways v)

-- where the path source is there already
module _ (es ways : Ways) (at : ℕ) (v : Via) (o : PathAttrs) (x : Via × PathAttrs) (r : Result ℕ ℕ) (view : es ≡ ways) (s : IsStrictlySortedBy code_via_cmp (keys_of es)) (found : AtPlace ways v r) (is : r ≡ Ok at) (read : x ≡ get_or es at x) where
  there : IsWayAt es v at
  there = subst (λ ws. IsWayAt ws v at) (sym view) (subst (AtPlace ways v) is found)

  pub set_in_order : IsStrictlySortedBy code_via_cmp (keys_of (slice_set es at (x.0, o)))
  set_in_order = subst (IsStrictlySortedBy code_via_cmp) (sym (set_keys es at x x.0 o there.0 (ap (λ (e : Via × PathAttrs). e.0) read))) s

  pub set_offers : (u : Via) → way_attrs (slice_set es at (x.0, o)) u ≡ way_put (Some v) (Some o) u (way_attrs ways u)
  set_offers u =
      set_found es at x x.0 v o u there.0 (ap (λ (e : Via × PathAttrs). e.0) read) (ap (λ (e : Via × PathAttrs). code_via_cmp e.0 v) read ∙ there.1 x) (subst (λ k. AreLess es at k) (ap (λ (e : Via × PathAttrs). e.0) (sym read)) (less_than_it es at x s there.0))
      ∙ ap (λ ws. way_put (Some v) (Some o) u (way_attrs ws u)) view

-- where it is new
module _ (es ways new : Ways) (at : ℕ) (v : Via) (o : PathAttrs) (r : Result ℕ ℕ) (view : es ≡ ways) (s : IsStrictlySortedBy code_via_cmp (keys_of es)) (found : AtPlace ways v r) (is : r ≡ Err at) (put : new ≡ insert es at (v, o)) where
  goes : BelongsAt es v at
  goes = subst (λ ws. BelongsAt ws v at) (sym view) (subst (AtPlace ways v) is found)

  pub put_in_order : IsStrictlySortedBy code_via_cmp (keys_of new)
  put_in_order = subst (λ ws. IsStrictlySortedBy code_via_cmp (keys_of ws)) (sym put) (insert_in_order es at v o s goes.0 (λ j d m. goes.1 j d (omega arith) m) goes.2)

  pub put_offers : (u : Via) → way_attrs new u ≡ way_put (Some v) (Some o) u (way_attrs ways u)
  put_offers u =
      ap (λ ws. way_attrs ws u) put ∙ (insert_found es at v o u goes.0 (λ j d m. goes.1 j d (omega arith) m) ∙ ap (λ ws. way_put (Some v) (Some o) u (way_attrs ws u)) view)
