-- Of changes in the order of prefixes, steady order is what a sort by turns and then by prefixes makes.
use Rattle.std.proofs.Common.{◌≡◌, ℕ, zero, suc, ◌+◌, ◌≤◌, ◌<◌, List, [], ◌∷◌, ◌++◌, Bool, true, false, cond, length, map, map-id, nat_eq, refl, sym, ap, subst, ◌∙◌, arith, inl, inr}
use Rattle.std.specs.Prelude.{◌⊎◌, slice_index_or}
use Rattle.std.specs.List.{AllByRecursion, Contains, filter, sum_by}
use Rattle.std.specs.List.Sorted.{IsPermutation, IsSorted, IsSortedBy, IsStrictlySortedBy}
use Rattle.std.specs.Cmp.{IsTotalOrder}
use Rattle.std.specs.Ordering.{nat_cmp, is_lt, ordering_then, ordering_reverse}
use Rattle.std.specs.declared.cmp.Ordering.{Ordering}
use Rattle.std.specs.declared.cmp.Ordering.TheVariants.{Less, Equal, Greater}
use Rattle.std.specs.Cmp.{nat_cmp_is}
use Rattle.std.proofs.lemmas.Cmp.{nat_cmp_total, on_total, then_total}
use Rattle.std.proofs.lemmas.List.Sorted.{IsPermutation-map, IsPermutation-sym, IsPermutation-trans, Contains-permutation, sum_by-IsPermutation, ranks_by, sorted_far}
use Rattle.std.proofs.lemmas.List.Sums.{sum_by-cons}
use Rattle.table_model.specs.Address.{Prefix, IsPrefix, same_prefix}
use Rattle.table_model.specs.Order.{prefix_cmp}
use Rattle.table_model.specs.Changes.{Change}
use Rattle.route_model.proofs.Keyed.{not_same_less}
use Rattle.route_model.proofs.Places.{both_equal, prefix_key}
use Rattle.kept_model.specs.Between.{place_of}
use Rattle.kept_model.specs.Steady.{in_steady_order}
use Rattle.kept_model.specs.Turns.{turn_of, steady_cmp}
use Rattle.kept_model.proofs.Turns.{ArePlaced, all_turns, in_turn, in_turns, all_filter, all_append, have_turn, not_before, by_turns, steady_same}
use Rattle.kept_model.proofs.Goes.{places_are}

pub steady_total : IsTotalOrder steady_cmp
steady_total = then_total (on_total turn_of nat_cmp_total) (on_total place_of prefix_key.total)

-- each comes before those behind it
abbrev Rise : List Change → Type 0
Rise [] = Unit {0}
Rise (c ∷ cs) = AllByRecursion (λ d. steady_cmp c d ≡ Less) cs × Rise cs

never_both : (c d : Change) → steady_cmp c d ≡ Less → steady_cmp d c ≡ Less → ⊥
never_both c d h k = let e : steady_cmp c d ≡ ordering_reverse Less = steady_total.antisymm c d ∙ ap ordering_reverse k in let z : Less ≡ Greater = sym h ∙ e in absurd cc

never_itself : (c : Change) → steady_cmp c c ≡ Less → ⊥
never_itself c h = never_both c c h h

-- ---- lists of the same changes that rise are one

abbrev In : Change → List Change → Type 0
In x [] = ⊥
In x (c ∷ cs) = (x ≡ c) ⊎ In x cs

found_in : (cs : List Change) (x : Change) (k : ℕ) → k < length cs → slice_index_or cs k x ≡ x → In x cs
found_in [] x k l e = absurd (omega (arith, l))
found_in (c ∷ cs) x zero l e = inl (sym e)
found_in (c ∷ cs) x (suc k) l e = inr (found_in cs x k (omega (arith, l)) e)

in_found : (cs : List Change) (x : Change) → In x cs → Contains cs x
in_found [] x i = absurd i
in_found (c ∷ cs) x (inl e) = (0, omega arith, sym e)
in_found (c ∷ cs) x (inr i) = let h = in_found cs x i in (suc h.0, omega (arith, h.1), h.2)

same_members : (cs ds : List Change) → IsPermutation cs ds → (x : Change) → In x cs → In x ds
same_members cs ds p x i = let h : Contains ds x = Contains-permutation cs ds x p (in_found cs x i) in found_in ds x h.0 h.1 h.2

at_member : (P : Change → Type 0) (cs : List Change) (x : Change) → AllByRecursion P cs → In x cs → P x
at_member P [] x a i = absurd i
at_member P (c ∷ cs) x a (inl e) = subst P (sym e) a.0
at_member P (c ∷ cs) x a (inr i) = at_member P cs x a.1 i

one_list : (cs ds : List Change) → Rise cs → Rise ds → ((x : Change) → In x cs → In x ds) → ((x : Change) → In x ds → In x cs) → cs ≡ ds
one_list [] [] s t f g = refl
one_list [] (d ∷ ds) s t f g = absurd (g d (inl refl))
one_list (c ∷ cs) [] s t f g = absurd (f c (inl refl))
one_list (c ∷ cs) (d ∷ ds) s t f g =
    let e : c ≡ d = first (f c (inl refl)) (g d (inl refl)) in
    let r : cs ≡ ds = one_list cs ds s.1 t.1 (λ x i. rest e x i (f x (inr i))) (λ x i. rest_back e x i (g x (inr i))) in
    ap (λ z. z ∷ cs) e ∙ ap (λ zs. d ∷ zs) r
  where
    first : In c (d ∷ ds) → In d (c ∷ cs) → c ≡ d
    first (inl e) j = e
    first (inr i) (inl e) = sym e
    first (inr i) (inr j) = absurd (never_both d c (at_member (λ x. steady_cmp d x ≡ Less) ds c t.0 i) (at_member (λ x. steady_cmp c x ≡ Less) cs d s.0 j))

    rest : c ≡ d → (x : Change) → In x cs → In x (d ∷ ds) → In x ds
    rest e x i (inl j) = absurd (never_itself c (subst (λ z. steady_cmp c z ≡ Less) (j ∙ sym e) (at_member (λ z. steady_cmp c z ≡ Less) cs x s.0 i)))
    rest e x i (inr j) = j

    rest_back : c ≡ d → (x : Change) → In x ds → In x (c ∷ cs) → In x cs
    rest_back e x i (inl j) = absurd (never_itself d (subst (λ z. steady_cmp d z ≡ Less) (j ∙ e) (at_member (λ z. steady_cmp d z ≡ Less) ds x t.0 i)))
    rest_back e x i (inr j) = j

-- ---- steady order rises

abbrev InPlaces : List Change → Type 0
InPlaces [] = Unit {0}
InPlaces (c ∷ cs) = AllByRecursion (λ d. prefix_cmp (place_of c) (place_of d) ≡ Less) cs × InPlaces cs

all_places : (p : Prefix) (cs : List Change) → AllByRecursion (λ q. prefix_cmp p q ≡ Less) (map place_of cs) → AllByRecursion (λ d. prefix_cmp p (place_of d) ≡ Less) cs
all_places p [] a = tt
all_places p (c ∷ cs) a = (a.0, all_places p cs a.1)

in_places : (cs : List Change) → IsStrictlySortedBy prefix_cmp (map place_of cs) → InPlaces cs
unfolding IsStrictlySortedBy
in_places [] s = tt
in_places (c ∷ cs) s = (all_places (place_of c) cs s.0, in_places cs s.1)

filter_places : (t : Change → Bool) (cs : List Change) → InPlaces cs → InPlaces (filter t cs)
filter_places t [] s = tt
filter_places t (c ∷ cs) s = by_test (t c) (filter_places t cs s.1)
  where
    by_test : (b : Bool) → InPlaces (filter t cs) → InPlaces (cond b (c ∷ filter t cs) (filter t cs))
    by_test true r = (all_filter (λ d. prefix_cmp (place_of c) (place_of d) ≡ Less) t cs s.0, r)
    by_test false r = r

in_one_turn : (c d : Change) → turn_of c ≡ turn_of d → prefix_cmp (place_of c) (place_of d) ≡ Less → steady_cmp c d ≡ Less
in_one_turn c d e l = ap (λ o. ordering_then o (prefix_cmp (place_of c) (place_of d))) (sym (nat_cmp_is (turn_of c) (turn_of d) Equal e)) ∙ l

in_earlier_turn : (c d : Change) → turn_of c < turn_of d → steady_cmp c d ≡ Less
in_earlier_turn c d l = ap (λ o. ordering_then o (prefix_cmp (place_of c) (place_of d))) (sym (nat_cmp_is (turn_of c) (turn_of d) Less l))

both_rise : (n : ℕ) (cs ds : List Change) → AllByRecursion (λ c. turn_of c ≡ n) cs → InPlaces cs → AllByRecursion (λ c. n + 1 ≤ turn_of c) ds → Rise ds → Rise (cs ++ ds)
both_rise n [] ds a s b r = r
both_rise n (c ∷ cs) ds a s b r = (all_append (λ d. steady_cmp c d ≡ Less) cs ds (here cs a.1 s.0) (beyond ds b), both_rise n cs ds a.1 s.1 b r)
  where
    here : (es : List Change) → AllByRecursion (λ d. turn_of d ≡ n) es → AllByRecursion (λ d. prefix_cmp (place_of c) (place_of d) ≡ Less) es → AllByRecursion (λ d. steady_cmp c d ≡ Less) es
    here [] h k = tt
    here (e ∷ es) h k = (in_one_turn c e (a.0 ∙ sym h.0) k.0, here es h.1 k.1)

    beyond : (es : List Change) → AllByRecursion (λ d. n + 1 ≤ turn_of d) es → AllByRecursion (λ d. steady_cmp c d ≡ Less) es
    beyond [] h = tt
    beyond (e ∷ es) h = let i : turn_of c ≡ n = a.0 in (in_earlier_turn c e (omega (arith, i, h.0)), beyond es h.1)

turns_rise : (k n : ℕ) (cs : List Change) → InPlaces cs → Rise (in_turns k n cs)
unfolding in_turns
turns_rise zero n cs s = tt
turns_rise (suc k) n cs s = both_rise n (in_turn n cs) (in_turns k (n + 1) cs) (have_turn n cs) (filter_places (λ c. nat_eq (turn_of c) n) cs s) (not_before k (n + 1) cs) (turns_rise k (n + 1) cs s)

steady_rises : (cs : List Change) → InPlaces cs → ArePlaced cs → Rise (in_steady_order cs)
steady_rises cs s a = subst Rise (sym (by_turns cs a)) (turns_rise all_turns 0 cs s)

-- ---- so does what a sort makes, since no prefix stands there twice

abbrev hits : Prefix → Change → ℕ
hits p c = cond (same_prefix p (place_of c)) 1 0

none_hit : (p : Prefix) (cs : List Change) → AllByRecursion (λ d. prefix_cmp p (place_of d) ≡ Less) cs → sum_by (hits p) cs ≡ 0
none_hit p [] a = refl
none_hit p (c ∷ cs) a =
    let i : hits p c ≡ 0 = ap (λ b. cond b 1 0) (not_same_less prefix_key p (place_of c) a.0) in
    let r : sum_by (hits p) cs ≡ 0 = none_hit p cs a.1 in
    omega (arith, i, r, sum_by-cons (hits p) c cs)

hit_once : (p : Prefix) (cs : List Change) → InPlaces cs → sum_by (hits p) cs ≤ 1
hit_once p [] s = omega arith
hit_once p (c ∷ cs) s = by_test (same_prefix p (place_of c)) refl (hit_once p cs s.1)
  where
    by_test : (b : Bool) → same_prefix p (place_of c) ≡ b → sum_by (hits p) cs ≤ 1 → sum_by (hits p) (c ∷ cs) ≤ 1
    by_test true e ih =
        let q : p ≡ place_of c = prefix_key.same p (place_of c) e in
        let r : sum_by (hits p) cs ≡ 0 = ap (λ x. sum_by (hits x) cs) q ∙ none_hit (place_of c) cs s.0 in
        let i : hits p c ≡ 1 = ap (λ b. cond b 1 0) e in
        omega (arith, i, r, sum_by-cons (hits p) c cs)
    by_test false e ih = let i : hits p c ≡ 0 = ap (λ b. cond b 1 0) e in omega (arith, i, ih, sum_by-cons (hits p) c cs)

-- none comes after one behind it
abbrev Sorted : List Change → Type 0
Sorted [] = Unit {0}
Sorted (c ∷ cs) = AllByRecursion (λ d. is_lt (steady_cmp d c) ≡ false) cs × Sorted cs

next_hit : (c : Change) → hits (place_of c) c ≡ 1
next_hit c = ap (λ b. cond b 1 0) (prefix_key.itself (place_of c))

all_less : (c : Change) (cs : List Change) → IsPrefix (place_of c) → ArePlaced cs → sum_by (hits (place_of c)) cs ≡ 0 → AllByRecursion (λ d. is_lt (steady_cmp d c) ≡ false) cs → AllByRecursion (λ d. steady_cmp c d ≡ Less) cs
all_less c [] x a n s = tt
all_less c (d ∷ ds) x a n s = (by_order (steady_cmp c d) refl, all_less c ds x a.1 (omega (arith, n, sum_by-cons (hits (place_of c)) d ds)) s.1)
  where
    by_order : (o : Ordering) → steady_cmp c d ≡ o → o ≡ Less
    by_order Less e = refl
    by_order Equal e =
        let p : place_of c ≡ place_of d = prefix_key.exact (place_of c) (place_of d) x a.0 (both_equal (nat_cmp (turn_of c) (turn_of d)) (prefix_cmp (place_of c) (place_of d)) e).1 in
        let h : hits (place_of c) d ≡ 1 = ap (λ q. hits q d) p ∙ next_hit d in
        absurd (omega (arith, n, h, sum_by-cons (hits (place_of c)) d ds))
    by_order Greater e =
        let b : steady_cmp d c ≡ Less = steady_total.antisymm d c ∙ ap ordering_reverse e in
        let z : true ≡ false = sym (ap is_lt b) ∙ s.0 in
        absurd cc

sorted_rise : (cs : List Change) → ArePlaced cs → ((p : Prefix) → sum_by (hits p) cs ≤ 1) → Sorted cs → Rise cs
sorted_rise [] a n s = tt
sorted_rise (c ∷ cs) a n s = (all_less c cs a.0 a.1 (omega (arith, next_hit c, n (place_of c), sum_by-cons (hits (place_of c)) c cs)) s.0, sorted_rise cs a.1 (λ p. omega (arith, n p, sum_by-cons (hits p) c cs)) s.1)

-- ---- by the clauses of a sort

module _ {X : Type 0} (f : X → Change) where
  all_from : (c : Change) (xs : List X) → ((k : ℕ) (d : X) → k < length xs → is_lt (steady_cmp (f (slice_index_or xs k d)) c) ≡ false) → AllByRecursion (λ d. is_lt (steady_cmp d c) ≡ false) (map f xs)
  all_from c [] h = tt
  all_from c (x ∷ xs) h = (h 0 x (omega arith), all_from c xs (λ k d l. h (suc k) d (omega (arith, l))))

  sorted_from : (xs : List X) → ((i j : ℕ) (d : X) → i ≤ j → j < length xs → is_lt (steady_cmp (f (slice_index_or xs j d)) (f (slice_index_or xs i d))) ≡ false) → Sorted (map f xs)
  sorted_from [] h = tt
  sorted_from (x ∷ xs) h = (all_from (f x) xs (λ k d l. h 0 (suc k) d (omega arith) (omega (arith, l))), sorted_from xs (λ i j d l u. h (suc i) (suc j) d (omega (arith, l)) (omega (arith, u))))

  all_placed : (cs ds : List Change) → IsPermutation cs ds → ArePlaced cs → ArePlaced ds
  all_placed cs ds p a = every ds (λ x i. at_member (λ c. IsPrefix (place_of c)) cs x a (same_members ds cs (IsPermutation-sym cs ds p) x i))
    where
      every : (es : List Change) → ((x : Change) → In x es → IsPrefix (place_of x)) → ArePlaced es
      every [] h = tt
      every (e ∷ es) h = (h e (inl refl), every es (λ x i. h x (inr i)))

  pub sorted_steady : (xs ys : List X) → IsStrictlySortedBy prefix_cmp (map place_of (map f xs)) → AllByRecursion IsPrefix (map place_of (map f xs)) → IsPermutation xs ys → IsSortedBy (λ x y. is_lt (steady_cmp (f x) (f y))) ys → map f ys ≡ in_steady_order (map f xs)
  sorted_steady xs ys s a p up =
      let cs = map f xs in
      let ds = map f ys in
      let q : IsPermutation cs ds = IsPermutation-map f xs ys p in
      let placed : ArePlaced cs = places_are cs a in
      let once : (r : Prefix) → sum_by (hits r) ds ≤ 1 = λ r. let e : sum_by (hits r) ds ≡ sum_by (hits r) cs = sum_by-IsPermutation (hits r) cs ds q in omega (arith, e, hit_once r cs (in_places cs s)) in
      let rise : Rise ds = sorted_rise ds (all_placed cs ds q placed) once (sorted_from ys (λ i j d l u. sorted_far (λ x y. is_lt (steady_cmp (f x) (f y))) (ranks_by steady_total f) ys up i j d l u)) in
      let r : IsPermutation cs (in_steady_order cs) = steady_same cs placed in
      one_list ds (in_steady_order cs) rise (steady_rises cs (in_places cs s) placed) (same_members ds (in_steady_order cs) (IsPermutation-trans _ _ _ (IsPermutation-sym cs ds q) r)) (same_members (in_steady_order cs) ds (IsPermutation-trans _ _ _ (IsPermutation-sym cs (in_steady_order cs) r) q))

pub one_order : (cs ds : List Change) → IsStrictlySortedBy prefix_cmp (map place_of cs) → AllByRecursion IsPrefix (map place_of cs) → IsPermutation cs ds → IsSorted steady_cmp ds → ds ≡ in_steady_order cs
one_order cs ds s a p up =
    let e : map (λ c. c) cs ≡ cs = map-id cs in
    sym (map-id ds) ∙ (sorted_steady (λ c. c) cs ds (subst (λ (es : List Change). IsStrictlySortedBy prefix_cmp (map place_of es)) (sym e) s) (subst (λ (es : List Change). AllByRecursion IsPrefix (map place_of es)) (sym e) a) p up ∙ ap in_steady_order e)
