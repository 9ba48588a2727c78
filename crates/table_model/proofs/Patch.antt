-- The patch: a table repaired within a region.
use Rattle.std.proofs.Common.{Option, None, Some, subst, ◌≡◌, ◌≢◌, ℕ, zero, suc, ◌+◌, ◌-◌, ◌≤◌, List, [], ◌∷◌, ◌++◌, Bool, true, false, not, ◌&&◌, cond, inl, inr, length, refl, sym, ap, ◌∙◌, arith}
use Rattle.std.specs.List.{AllByRecursion, filter}
use Rattle.std.proofs.Common.{length-append, append_assoc}
use Rattle.std.proofs.lemmas.Bool.{cond-true, cond-false, cases_Bool}
use Rattle.std.proofs.lemmas.List.{append-nil}
use Rattle.std.proofs.lemmas.List.Elements.{filter-append}
use Rattle.std.proofs.lemmas.List.Filters.{length-filter_both}
use Rattle.table_model.specs.Table.{Entry, Table, longest, hop_or, containing, lpm, Distinct, IsTable, Alike, root, inherit, half, cut, here}
use Rattle.table_model.specs.Bits.{begins}
use Rattle.table_model.specs.Regions.{IsWithin, lift, outside, strictly_containing, above}
use Rattle.table_model.proofs.Sets.{miss, filled, in_pick, in_smallest, smallest_least}
use Rattle.table_model.specs.Sets.{is_in, pick, smallest, own, set_of, agg, answers}
use Rattle.table_model.specs.Least.{IsBest, IsOwn, IsAggregate, set_at, k_at, aggregate, patch}
use Rattle.table_model.specs.Regions.{entry_at, SameOutside}
use Rattle.table_model.proofs.Cut.{entry, length_cut}
use Rattle.table_model.proofs.Above.{above_cut, none_above}
use Rattle.table_model.proofs.Join.{all_append, all_from, all_weaker, distinct_append}
use Rattle.table_model.proofs.Region.{lpm_region, cut_lift, cut_append, within_lift, length_cut_most}
use Rattle.table_model.proofs.Cost.{lower, agg_answers, agg_entry, set_alike, set_filled}
use Rattle.table_model.proofs.Laws.{aggregate_length, aggregate_table, best_law}

both_ways : (b : Bool) → b ≡ true → b ≡ false → ⊥
both_ways b e f = cc

pub begins_trans : (p q a : List Bool) → begins p q ≡ true → begins q a ≡ true → begins p a ≡ true
begins_trans [] q a h k = refl
begins_trans (true ∷ p) [] a h k = cc
begins_trans (false ∷ p) [] a h k = cc
begins_trans (true ∷ p) (true ∷ q) [] h k = cc
begins_trans (false ∷ p) (false ∷ q) [] h k = cc
begins_trans (true ∷ p) (true ∷ q) (true ∷ a) h k = begins_trans p q a h k
begins_trans (false ∷ p) (false ∷ q) (false ∷ a) h k = begins_trans p q a h k
begins_trans (true ∷ p) (true ∷ q) (false ∷ a) h k = cc
begins_trans (false ∷ p) (false ∷ q) (true ∷ a) h k = cc
begins_trans (true ∷ p) (false ∷ q) a h k = cc
begins_trans (false ∷ p) (true ∷ q) a h k = cc

pub begins_rest : (p a : List Bool) → begins p a ≡ true → (r : List Bool) × (a ≡ p ++ r)
begins_rest [] a h = (a, refl)
begins_rest (true ∷ p) [] h = cc
begins_rest (false ∷ p) [] h = cc
begins_rest (true ∷ p) (true ∷ a) h = let r : (r : List Bool) × (a ≡ p ++ r) = begins_rest p a h in (r.0, ap (λ x. true ∷ x) r.1)
begins_rest (false ∷ p) (false ∷ a) h = let r : (r : List Bool) × (a ≡ p ++ r) = begins_rest p a h in (r.0, ap (λ x. false ∷ x) r.1)
begins_rest (true ∷ p) (false ∷ a) h = cc
begins_rest (false ∷ p) (true ∷ a) h = cc

-- filters
module _ {X : Type 0} where
  filter_none : (t : X → Bool) (xs : List X) → AllByRecursion (λ x. t x ≡ false) xs → filter t xs ≡ []
  filter_none t [] h = refl
  filter_none t (x ∷ xs) h = cond-false _ _ _ h.0 ∙ filter_none t xs h.1

  filter_twice_step : (t u : X → Bool) (b c : Bool) (x : X) (xs : List X) → u x ≡ b → t x ≡ c → (t x ≡ true → u x ≡ true) → filter t (filter u xs) ≡ filter t xs → filter t (cond b (x ∷ filter u xs) (filter u xs)) ≡ cond c (x ∷ filter t xs) (filter t xs)
  filter_twice_step t u true true x xs e f h ih = cond-true _ _ _ f ∙ ap (λ y. x ∷ y) ih
  filter_twice_step t u true false x xs e f h ih = cond-false _ _ _ f ∙ ih
  filter_twice_step t u false true x xs e f h ih = absurd (both_ways (u x) (h f) e)
  filter_twice_step t u false false x xs e f h ih = ih

  -- what the first filter drops, the second would
  filter_twice : (t u : X → Bool) → ((x : X) → t x ≡ true → u x ≡ true) → (xs : List X) → filter t (filter u xs) ≡ filter t xs
  filter_twice t u h [] = refl
  filter_twice t u h (x ∷ xs) = filter_twice_step t u (u x) (t x) x xs refl refl (h x) (filter_twice t u h xs)

  all_kept_step : (P : X → Type 0) (b : Bool) (x : X) (xs : List X) → (b ≡ true → P x) → AllByRecursion P xs → AllByRecursion P (cond b (x ∷ xs) xs)
  all_kept_step P true x xs h k = (h refl, k)
  all_kept_step P false x xs h k = k

  all_passing : (P : X → Type 0) (t : X → Bool) → ((x : X) → t x ≡ true → P x) → (xs : List X) → AllByRecursion P (filter t xs)
  all_passing P t h [] = tt
  all_passing P t h (x ∷ xs) = all_kept_step P (t x) x (filter t xs) (h x) (all_passing P t h xs)

  all_filter : (P : X → Type 0) (t : X → Bool) (xs : List X) → AllByRecursion P xs → AllByRecursion P (filter t xs)
  all_filter P t [] h = tt
  all_filter P t (x ∷ xs) h = all_kept_step P (t x) x (filter t xs) (λ e. h.0) (all_filter P t xs h.1)

distinct_kept : (b : Bool) (e : Entry) (L : Table) → AllByRecursion (λ (f : Entry). e.prefix ≢ f.prefix) L → Distinct L → Distinct (cond b (e ∷ L) L)
distinct_kept true e L h d = (h, d)
distinct_kept false e L h d = d

distinct_filter : (t : Entry → Bool) (L : Table) → Distinct L → Distinct (filter t L)
distinct_filter t [] d = tt
distinct_filter t (e ∷ L) d = distinct_kept (t e) e (filter t L) (all_filter (λ (f : Entry). e.prefix ≢ f.prefix) t L d.0) (distinct_filter t L d.1)

table_filter : (w : ℕ) (t : Entry → Bool) (L : Table) → IsTable w L → IsTable w (filter t L)
table_filter w t L h = (distinct_filter t L h.0, all_filter (λ (e : Entry). length e.prefix ≤ w) t L h.1)

table_append : (w : ℕ) (L M : Table) → IsTable w L → IsTable w M → AllByRecursion (λ e. AllByRecursion (λ f. e.prefix ≢ f.prefix) M) L → IsTable w (L ++ M)
table_append w L M h k a = (distinct_append L M h.0 k.0 a, all_append (λ (e : Entry). length e.prefix ≤ w) L M h.1 k.1)

not_true : (b : Bool) → not b ≡ true → b ≡ false
not_true true e = cc
not_true false e = refl

-- no entry outside p has the prefix of an entry within p
apart_outside : (p : List Bool) (L M : Table) → IsWithin p M → AllByRecursion (λ e. AllByRecursion (λ f. e.prefix ≢ f.prefix) M) (outside p L)
apart_outside p L M h =
    all_passing (λ (e : Entry). AllByRecursion (λ (f : Entry). e.prefix ≢ f.prefix) M) (λ (e : Entry). not (begins p e.prefix))
    (λ e o. all_weaker (λ (f : Entry). e.prefix ≢ f.prefix) (λ (f : Entry). begins p f.prefix ≡ true) (λ f k same. both_ways (begins p e.prefix) (ap (begins p) same ∙ k) (not_true (begins p e.prefix) o)) M h) L

-- outside p the entries within p do not count
not_from : (b : Bool) → (b ≡ true → ⊥) → b ≡ false
not_from true h = absurd (h refl)
not_from false h = refl

not_false : (b : Bool) → b ≡ false → not b ≡ true
not_false true e = cc
not_false false e = refl

containing_outside : (p a : List Bool) (L : Table) → begins p a ≡ false → containing a (outside p L) ≡ containing a L
containing_outside p a L n =
    filter_twice (λ (e : Entry). begins e.prefix a) (λ (e : Entry). not (begins p e.prefix))
    (λ e k. not_false (begins p e.prefix) (not_from (begins p e.prefix) (λ o. both_ways (begins p a) (begins_trans p e.prefix a o k) n))) L

containing_within : (p a : List Bool) (M : Table) → begins p a ≡ false → IsWithin p M → containing a M ≡ []
containing_within p a M n h =
    filter_none (λ (e : Entry). begins e.prefix a) M
    (all_weaker (λ (e : Entry). begins e.prefix a ≡ false) (λ (e : Entry). begins p e.prefix ≡ true) (λ e k. not_from (begins e.prefix a) (λ o. both_ways (begins p a) (begins_trans p e.prefix a k o) n)) M h)

pub lpm_outside : (p : List Bool) (L M : Table) (a : List Bool) (h : ℕ) → begins p a ≡ false → IsWithin p M → lpm (outside p L ++ M) a h ≡ lpm L a h
lpm_outside p L M a h n i =
    ap (λ x. hop_or h (longest x))
    (filter-append (λ (e : Entry). begins e.prefix a) (outside p L) M ∙ (ap (λ x. x ++ containing a M) (containing_outside p a L n) ∙ (ap (λ x. containing a L ++ x) (containing_within p a M n i) ∙ append-nil (containing a L))))

-- what p inherits does not depend on what is within p
and_left : (x y : Bool) → (x && y) ≡ true → y ≡ true
and_left true y e = e
and_left false y e = cc

and_never : (x : Bool) (y : Bool) → y ≡ true → (x && not y) ≡ false
and_never true true e = refl
and_never false y e = refl
and_never true false e = cc

none_strictly : (p : List Bool) (M : Table) → IsWithin p M → strictly_containing p M ≡ []
none_strictly p M i =
    filter_none (λ (e : Entry). begins e.prefix p && not (begins p e.prefix)) M
    (all_weaker (λ (e : Entry). (begins e.prefix p && not (begins p e.prefix)) ≡ false) (λ (e : Entry). begins p e.prefix ≡ true) (λ e k. and_never (begins e.prefix p) (begins p e.prefix) k) M i)

strictly_outside : (p : List Bool) (L M : Table) → IsWithin p M → strictly_containing p (outside p L ++ M) ≡ strictly_containing p L
strictly_outside p L M i =
    filter-append (λ (e : Entry). begins e.prefix p && not (begins p e.prefix)) (outside p L) M
    ∙ (ap (λ x. x ++ strictly_containing p M) (filter_twice (λ (e : Entry). begins e.prefix p && not (begins p e.prefix)) (λ (e : Entry). not (begins p e.prefix)) (λ e k. and_left (begins e.prefix p) (not (begins p e.prefix)) k) L)
    ∙ (ap (λ x. strictly_containing p L ++ x) (none_strictly p M i)
    ∙ append-nil (strictly_containing p L)))

-- halves of what is outside and within
half_kept : (b x : Bool) (q : List Bool) (g : ℕ) (F N : Table) → half b F ≡ N → half b (cond x (entry (b ∷ q) g ∷ F) F) ≡ cond x (entry q g ∷ N) N
half_kept true true q g F N ih = ap (λ y. entry q g ∷ y) ih
half_kept false true q g F N ih = ap (λ y. entry q g ∷ y) ih
half_kept b false q g F N ih = ih

half_dropped : (b x : Bool) (q : List Bool) (g : ℕ) (F : Table) → half b (entry q g ∷ F) ≡ half b F → half b (cond x (entry q g ∷ F) F) ≡ half b F
half_dropped b true q g F e = e
half_dropped b false q g F e = refl

half_passing_step : (b : Bool) (t u : List Bool → Bool) → ((q : List Bool) → t (b ∷ q) ≡ u q) → (q : List Bool) (g : ℕ) (L : Table) → half b (filter (λ e. t e.prefix) L) ≡ filter (λ e. u e.prefix) (half b L) → half b (filter (λ e. t e.prefix) (entry q g ∷ L)) ≡ filter (λ e. u e.prefix) (half b (entry q g ∷ L))
half_passing_step true t u s [] g L ih = half_dropped true (t []) [] g (filter (λ e. t e.prefix) L) refl ∙ ih
half_passing_step false t u s [] g L ih = half_dropped false (t []) [] g (filter (λ e. t e.prefix) L) refl ∙ ih
half_passing_step true t u s (true ∷ q) g L ih = ap (λ x. half true (cond x (entry (true ∷ q) g ∷ filter (λ e. t e.prefix) L) (filter (λ e. t e.prefix) L))) (s q) ∙ half_kept true (u q) q g (filter (λ e. t e.prefix) L) (filter (λ e. u e.prefix) (half true L)) ih
half_passing_step false t u s (false ∷ q) g L ih = ap (λ x. half false (cond x (entry (false ∷ q) g ∷ filter (λ e. t e.prefix) L) (filter (λ e. t e.prefix) L))) (s q) ∙ half_kept false (u q) q g (filter (λ e. t e.prefix) L) (filter (λ e. u e.prefix) (half false L)) ih
half_passing_step true t u s (false ∷ q) g L ih = half_dropped true (t (false ∷ q)) (false ∷ q) g (filter (λ e. t e.prefix) L) refl ∙ ih
half_passing_step false t u s (true ∷ q) g L ih = half_dropped false (t (true ∷ q)) (true ∷ q) g (filter (λ e. t e.prefix) L) refl ∙ ih

-- a filter by prefix goes on in the half
half_passing : (b : Bool) (t u : List Bool → Bool) → ((q : List Bool) → t (b ∷ q) ≡ u q) → (L : Table) → half b (filter (λ e. t e.prefix) L) ≡ filter (λ e. u e.prefix) (half b L)
half_passing b t u s [] = refl
half_passing b t u s (e ∷ L) = half_passing_step b t u s e.prefix e.hop L (half_passing b t u s L)

pub begins_same : (b : Bool) (p q : List Bool) → begins (b ∷ p) (b ∷ q) ≡ begins p q
begins_same true p q = refl
begins_same false p q = refl

pub begins_other : (b : Bool) (p q : List Bool) → begins (b ∷ p) (not b ∷ q) ≡ false
begins_other true p q = refl
begins_other false p q = refl

pub cut_outside : (p : List Bool) (L : Table) → cut p (outside p L) ≡ []
cut_outside [] L = filter_none (λ (e : Entry). false) L (all_from _ (λ e. refl) L)
cut_outside (b ∷ p) L = ap (cut p) (half_passing b (λ q. not (begins (b ∷ p) q)) (λ q. not (begins p q)) (λ q. ap not (begins_same b p q)) L) ∙ cut_outside p (half b L)

filter_all : (L : Table) → filter (λ (e : Entry). true) L ≡ L
filter_all [] = refl
filter_all (e ∷ L) = ap (λ x. e ∷ x) (filter_all L)

-- the entries within p
abbrev within : List Bool → Table → Table
within p L = filter (λ e. begins p e.prefix) L

pub cut_within : (p : List Bool) (L : Table) → cut p (within p L) ≡ cut p L
cut_within [] L = filter_all L
cut_within (b ∷ p) L = ap (cut p) (half_passing b (λ q. begins (b ∷ p) q) (λ q. begins p q) (λ q. begins_same b p q) L) ∙ cut_within p (half b L)

-- the patch is a table
pub patch_table : (w : ℕ) (T R : Table) (p : List Bool) → length p ≤ w → IsTable w T → IsTable w (patch w T R p)
patch_table w T R p s h =
    let M : Table = aggregate w R p (above p T 0) T in
    table_append w (outside p T) M (table_filter w (λ (e : Entry). not (begins p e.prefix)) T h) (aggregate_table w R p (above p T 0) T s)
    (apart_outside p T M (within_lift p (agg (w - length p) (answers R p) (cut p T) (above p T 0))))

-- it answers as T outside p
pub patch_outside : (w : ℕ) (T R : Table) (p a : List Bool) → begins p a ≡ false → lpm (patch w T R p) a 0 ≡ lpm T a 0
patch_outside w T R p a n = lpm_outside p T (aggregate w R p (above p T 0) T) a 0 n (within_lift p (agg (w - length p) (answers R p) (cut p T) (above p T 0)))

-- and as R within
pub patch_within : (w : ℕ) (T R : Table) (p r : List Bool) → length (p ++ r) ≡ w → lpm (patch w T R p) (p ++ r) 0 ≡ lpm R (p ++ r) 0
patch_within w T R p r l =
    let d = w - length p in
    let h = above p T 0 in
    let A : Table = agg d (answers R p) (cut p T) h in
    let e : cut p (outside p T ++ lift p A) ≡ A = cut_append p (outside p T) (lift p A) ∙ (ap (λ x. x ++ cut p (lift p A)) (cut_outside p T) ∙ cut_lift p A) in
    let f : above p (outside p T ++ lift p A) 0 ≡ h = ap (λ x. hop_or 0 (longest x)) (strictly_outside p T (lift p A) (within_lift p A)) in
    let n : length r ≡ d = omega (arith, length-append p r) in
    lpm_region p (outside p T ++ lift p A) r 0 ∙ (ap (λ x. lpm x r (above p (outside p T ++ lift p A) 0)) e ∙ (ap (lpm A r) f ∙ agg_answers d (answers R p) (cut p T) h r n))

pub patch_alike : (w : ℕ) (T R : Table) (p : List Bool) → ((a : List Bool) → length a ≡ w → begins p a ≡ false → lpm T a 0 ≡ lpm R a 0) → Alike w R (patch w T R p)
patch_alike w T R p h a l = elim (cases_Bool (begins p a)) [
  | inl e ↦ let r = begins_rest p a e in
      let n : length (p ++ r.0) ≡ w = sym (ap length r.1) ∙ l in
      ap (λ x. lpm R x 0) r.1 ∙ (sym (patch_within w T R p r.0 n) ∙ ap (λ x. lpm (patch w T R p) x 0) (sym r.1))
  | inr e ↦ sym (patch_outside w T R p a e ∙ h a l e)
]

pub patch_length : (w : ℕ) (T R : Table) (p : List Bool) → length (patch w T R p) ≡ length (outside p T) + (k_at w R p + miss (above p T 0) (set_at w R p))
patch_length w T R p = omega (arith, length-append (outside p T) (aggregate w R p (above p T 0) T), aggregate_length w R p (above p T 0) T)

-- what an alike table has within p
pub within_lower : (w : ℕ) (R L : Table) (p : List Bool) → length p ≤ w → Alike w R L → k_at w R p + miss (above p L 0) (set_at w R p) ≤ length (within p L)
within_lower w R L p s e =
    let c : length (cut p L) ≤ length (within p L) = omega (arith, length_cut_most p (within p L), ap length (cut_within p L)) in
    omega (
      arith,
      c,
      lower (w - length p) (answers R p) (cut p L) (above p L 0)
          (λ a l. sym (lpm_region p L a 0) ∙ sym (e (p ++ a) (let n : length (p ++ a) ≡ w = omega (arith, length-append p a) in n))),
    )

-- tables with the same entries outside p
pub same_half : (b : Bool) (p : List Bool) (L M : Table) → SameOutside (b ∷ p) L M → SameOutside p (half b L) (half b M)
same_half b p L M h q n = h (b ∷ q) (begins_same b p q ∙ n)

pub same_root : (b : Bool) (p : List Bool) (L M : Table) → SameOutside (b ∷ p) L M → root L ≡ root M
same_root true p L M h = h [] refl
same_root false p L M h = h [] refl

pub same_above : (p : List Bool) (L M : Table) (h : ℕ) → SameOutside p L M → above p L h ≡ above p M h
same_above [] L M h s = ap (λ x. hop_or h (longest x)) (none_above L) ∙ sym (ap (λ x. hop_or h (longest x)) (none_above M))
same_above (b ∷ p) L M h s =
    above_cut b p L h ∙ (ap (λ o. above p (half b L) (inherit o h)) (same_root b p L M s) ∙ (same_above p (half b L) (half b M) (inherit (root M) h) (same_half b p L M s) ∙ sym (above_cut b p M h)))

-- halves of tables
short_step : (b : Bool) (w : ℕ) (q : List Bool) (g : ℕ) (L : Table) → length q ≤ suc w → AllByRecursion (λ (e : Entry). length e.prefix ≤ w) (half b L) → AllByRecursion (λ (e : Entry). length e.prefix ≤ w) (half b (entry q g ∷ L))
short_step true w [] g L s ih = ih
short_step false w [] g L s ih = ih
short_step true w (true ∷ q) g L s ih = (omega arith, ih)
short_step false w (true ∷ q) g L s ih = ih
short_step true w (false ∷ q) g L s ih = ih
short_step false w (false ∷ q) g L s ih = (omega arith, ih)

short_half : (b : Bool) (w : ℕ) (L : Table) → AllByRecursion (λ (e : Entry). length e.prefix ≤ suc w) L → AllByRecursion (λ (e : Entry). length e.prefix ≤ w) (half b L)
short_half b w [] h = tt
short_half b w (e ∷ L) h = short_step b w e.prefix e.hop L h.0 (short_half b w L h.1)

apart_step : (b : Bool) (p q : List Bool) (g : ℕ) (L : Table) → (b ∷ p) ≢ q → AllByRecursion (λ (f : Entry). p ≢ f.prefix) (half b L) → AllByRecursion (λ (f : Entry). p ≢ f.prefix) (half b (entry q g ∷ L))
apart_step true p [] g L n ih = ih
apart_step false p [] g L n ih = ih
apart_step true p (true ∷ q) g L n ih = (λ e. n (ap (λ x. true ∷ x) e), ih)
apart_step false p (true ∷ q) g L n ih = ih
apart_step true p (false ∷ q) g L n ih = ih
apart_step false p (false ∷ q) g L n ih = (λ e. n (ap (λ x. false ∷ x) e), ih)

apart_half : (b : Bool) (p : List Bool) (L : Table) → AllByRecursion (λ (f : Entry). (b ∷ p) ≢ f.prefix) L → AllByRecursion (λ (f : Entry). p ≢ f.prefix) (half b L)
apart_half b p [] h = tt
apart_half b p (e ∷ L) h = apart_step b p e.prefix e.hop L h.0 (apart_half b p L h.1)

distinct_step : (b : Bool) (q : List Bool) (g : ℕ) (L : Table) → AllByRecursion (λ (f : Entry). q ≢ f.prefix) L → Distinct (half b L) → Distinct (half b (entry q g ∷ L))
distinct_step true [] g L n ih = ih
distinct_step false [] g L n ih = ih
distinct_step true (true ∷ q) g L n ih = (apart_half true q L n, ih)
distinct_step false (true ∷ q) g L n ih = ih
distinct_step true (false ∷ q) g L n ih = ih
distinct_step false (false ∷ q) g L n ih = (apart_half false q L n, ih)

distinct_half : (b : Bool) (L : Table) → Distinct L → Distinct (half b L)
distinct_half b [] d = tt
distinct_half b (e ∷ L) d = distinct_step b e.prefix e.hop L d.0 (distinct_half b L d.1)

pub table_half : (b : Bool) (w : ℕ) (L : Table) → IsTable (suc w) L → IsTable w (half b L)
table_half b w L h = (distinct_half b L h.0, short_half b w L h.1)

no_bits : (b : Bool) (q : List Bool) (g : ℕ) (L : Table) → length q ≤ 0 → half b L ≡ [] → half b (entry q g ∷ L) ≡ []
no_bits true [] g L s ih = ih
no_bits false [] g L s ih = ih
no_bits b (c ∷ q) g L s ih = absurd (omega arith)

pub no_half : (b : Bool) (L : Table) → AllByRecursion (λ (e : Entry). length e.prefix ≤ 0) L → half b L ≡ []
no_half b [] h = refl
no_half b (e ∷ L) h = no_bits b e.prefix e.hop L h.0 (no_half b L h.1)

-- tables with the same entries have as many
pub same_length : (w : ℕ) (L M : Table) → IsTable w L → IsTable w M → ((q : List Bool) → entry_at q L ≡ entry_at q M) → length L ≡ length M
same_length zero L M h k s =
    omega (
      arith,
      length_cut L h.0,
      length_cut M k.0,
      ap (λ o. length (here o)) (s []),
      ap length (no_half false L h.1),
      ap length (no_half true L h.1),
      ap length (no_half false M k.1),
      ap length (no_half true M k.1),
    )
same_length (suc w) L M h k s =
    omega (
      arith,
      length_cut L h.0,
      length_cut M k.0,
      ap (λ o. length (here o)) (s []),
      same_length w (half false L) (half false M) (table_half false w L h) (table_half false w M k) (λ q. s (false ∷ q)),
      same_length w (half true L) (half true M) (table_half true w L h) (table_half true w M k) (λ q. s (true ∷ q)),
    )

root_kept : (x : Bool) (q : List Bool) (g : ℕ) (F L : Table) → (q ≡ [] → x ≡ true) → root F ≡ root L → root (cond x (entry q g ∷ F) F) ≡ root (entry q g ∷ L)
root_kept true [] g F L h ih = refl
root_kept true (b ∷ q) g F L h ih = ih
root_kept false [] g F L h ih = let e : false ≡ true = h refl in cc
root_kept false (b ∷ q) g F L h ih = ih

outside_nil : (b : Bool) (p q : List Bool) → q ≡ [] → not (begins (b ∷ p) q) ≡ true
outside_nil true p [] e = refl
outside_nil false p [] e = refl
outside_nil b p (c ∷ q) e = cc

pub root_outside : (b : Bool) (p : List Bool) (L : Table) → root (outside (b ∷ p) L) ≡ root L
root_outside b p [] = refl
root_outside b p (e ∷ L) = root_kept (not (begins (b ∷ p) e.prefix)) e.prefix e.hop (outside (b ∷ p) L) L (outside_nil b p e.prefix) (root_outside b p L)

pub half_outside_same : (b : Bool) (p : List Bool) (L : Table) → half b (outside (b ∷ p) L) ≡ outside p (half b L)
half_outside_same b p L = half_passing b (λ q. not (begins (b ∷ p) q)) (λ q. not (begins p q)) (λ q. ap not (begins_same b p q)) L

pub half_outside_other : (b : Bool) (p : List Bool) (L : Table) → half (not b) (outside (b ∷ p) L) ≡ half (not b) L
half_outside_other b p L = half_passing (not b) (λ q. not (begins (b ∷ p) q)) (λ q. true) (λ q. ap not (begins_other b p q)) L ∙ filter_all (half (not b) L)

sides : (b : Bool) (L : Table) → Distinct L → length L ≡ length (here (root L)) + length (half b L) + length (half (not b) L)
sides false L d = length_cut L d
sides true L d = omega (arith, length_cut L d)

length_outside : (b : Bool) (p : List Bool) (L : Table) → Distinct L → length (outside (b ∷ p) L) ≡ length (here (root L)) + length (outside p (half b L)) + length (half (not b) L)
length_outside b p L d =
    omega (
      arith,
      sides b (outside (b ∷ p) L) (distinct_filter (λ (e : Entry). not (begins (b ∷ p) e.prefix)) L d),
      ap (λ o. length (here o)) (root_outside b p L),
      ap length (half_outside_same b p L),
      ap length (half_outside_other b p L),
    )

pub same_outside : (w : ℕ) (p : List Bool) (L M : Table) → length p ≤ w → IsTable w L → IsTable w M → SameOutside p L M → length (outside p L) ≡ length (outside p M)
same_outside w [] L M s h k e = ap length (cut_outside [] L) ∙ sym (ap length (cut_outside [] M))
same_outside zero (b ∷ p) L M s h k e = absurd (omega arith)
same_outside (suc w) (b ∷ p) L M s h k e =
    omega (
      arith,
      length_outside b p L h.0,
      length_outside b p M k.0,
      ap (λ o. length (here o)) (same_root b p L M e),
      same_outside w p (half b L) (half b M) (omega arith) (table_half b w L h) (table_half b w M k) (same_half b p L M e),
      same_length w (half (not b) L) (half (not b) M) (table_half (not b) w L h) (table_half (not b) w M k) (λ q. e (not b ∷ q) (begins_other b p q)),
    )

-- no table alike to R that has T's entries outside p has fewer entries than the patch
pub patch_least : (w : ℕ) (T R L : Table) (p : List Bool) → length p ≤ w → IsTable w T → IsTable w L → Alike w R L → SameOutside p L T → length (patch w T R p) ≤ length L
patch_least w T R L p s h k e o =
    let both : length (within p L) + length (outside p L) ≡ length L = length-filter_both (λ (x : Entry). begins p x.prefix) (λ (x : Entry). not (begins p x.prefix)) (λ x. refl) L in
    let i : k_at w R p + miss (above p L 0) (set_at w R p) ≡ k_at w R p + miss (above p T 0) (set_at w R p) = ap (λ x. k_at w R p + miss x (set_at w R p)) (same_above p L T 0 o) in
    omega (arith, both, i, patch_length w T R p, within_lower w R L p s e, same_outside w p L T s k h o)

-- what a prefix below p inherits
pub cut_cut : (p q : List Bool) (L : Table) → cut (p ++ q) L ≡ cut q (cut p L)
cut_cut [] q L = refl
cut_cut (b ∷ p) q L = cut_cut p q (half b L)

above_below : (p q : List Bool) (L : Table) (h : ℕ) → above (p ++ q) L h ≡ above q (cut p L) (above p L h)
above_below [] q L h = ap (λ x. above q L (hop_or h (longest x))) (sym (none_above L))
above_below (b ∷ p) q L h = above_cut b (p ++ q) L h ∙ (above_below p q (half b L) (inherit (root L) h) ∙ ap (above q (cut p (half b L))) (sym (above_cut b p L h)))

set_below : (w : ℕ) (R : Table) (p q : List Bool) → set_of (w - length p - length q) (λ a. answers R p (q ++ a)) ≡ set_at w R (p ++ q)
set_below w R p q =
    let e : w - length p - length q ≡ w - length (p ++ q) = omega (arith, length-append p q) in
    ap (λ d. set_of d (λ a. answers R p (q ++ a))) e
    ∙ set_alike (w - length (p ++ q)) (λ a. answers R p (q ++ a)) (answers R (p ++ q)) (λ a l. ap (λ x. lpm R x 0) (sym (append_assoc p q a)))

-- at each prefix within p the aggregate has an entry exactly where the set lacks what is inherited there
pub aggregate_entry : (w : ℕ) (R : Table) (p q : List Bool) (h : ℕ) (old : Table) → length (p ++ q) ≤ w → entry_at (p ++ q) (aggregate w R p h old) ≡ own (set_at w R (p ++ q)) (entry_at (p ++ q) old) (above (p ++ q) (aggregate w R p h old) h)
aggregate_entry w R p q h old s =
    let d = w - length p in
    let A : Table = agg d (answers R p) (cut p old) h in
    let in_depth : length q ≤ d = omega (arith, length-append p q) in
    let up : above (p ++ q) (lift p A) h ≡ above q A h =
    above_below p q (lift p A) h ∙ (ap (λ x. above q x (above p (lift p A) h)) (cut_lift p A) ∙ ap (λ x. above q A (hop_or h (longest x))) (none_strictly p (lift p A) (within_lift p A)))
    in
    ap root (cut_cut p q (lift p A) ∙ ap (cut q) (cut_lift p A))
    ∙ (agg_entry q d (answers R p) (cut p old) h in_depth
    ∙ (ap (λ x. own x (root (cut q (cut p old))) (above q A h)) (set_below w R p q)
    ∙ (ap (λ x. own (set_at w R (p ++ q)) (root x) (above q A h)) (sym (cut_cut p q old))
    ∙ ap (own (set_at w R (p ++ q)) (entry_at (p ++ q) old)) (sym up))))

-- what the sets choose is what the best hops determine
own_is : (w : ℕ) (R : Table) (p : List Bool) (old : Option ℕ) (h : ℕ) → length p ≤ w → IsOwn w R p old h (own (set_at w R p) old h)
own_is w R p old h s =
    let S = set_at w R p in
    let full : filled S ≡ true = set_filled (w - length p) (answers R p) in (
      λ b. ap (λ (x : Bool). cond x None (Some (pick S old))) ((best_law w R p h s).1 b),
      λ n. (
        pick S old,
        ap (λ (x : Bool). cond x None (Some (pick S old))) (not_from (is_in h S) (λ e. n ((best_law w R p h s).0 e))),
        (best_law w R p (pick S old) s).0 (in_pick S old full),
        (λ k o b. ap (pick S) o ∙ cond-true _ _ _ ((best_law w R p k s).1 b)),
        λ none k b. subst (λ (x : ℕ). x ≤ k) (sym (no_old old none)) (smallest_least S k ((best_law w R p k s).1 b)),
      ),
    )
  where
    no_old : (o : Option ℕ) → ((k : ℕ) → o ≡ Some k → IsBest w R p k → ⊥) → pick (set_at w R p) o ≡ smallest (set_at w R p)
    no_old None n = refl
    no_old (Some g) n = cond-false _ _ _ (not_from (is_in g (set_at w R p)) (λ e. n g refl ((best_law w R p g s).0 e)))

pub aggregate_is : (w : ℕ) (R : Table) (p : List Bool) (h : ℕ) (old : Table) → length p ≤ w → IsAggregate w R p h old (aggregate w R p h old)
aggregate_is w R p h old s = (
  aggregate_table w R p h old s,
  within_lift p (agg (w - length p) (answers R p) (cut p old) h),
  λ q l. subst (IsOwn w R (p ++ q) (entry_at (p ++ q) old) (above (p ++ q) (aggregate w R p h old) h)) (sym (aggregate_entry w R p q h old l)) (own_is w R (p ++ q) (entry_at (p ++ q) old) (above (p ++ q) (aggregate w R p h old) h) l),
)

-- and no other table is
own_fixed : (w : ℕ) (R : Table) (p : List Bool) (old : Option ℕ) (h : ℕ) (o : Option ℕ) → length p ≤ w → IsOwn w R p old h o → o ≡ own (set_at w R p) old h
own_fixed w R p old h o s i = by_test (is_in h (set_at w R p)) refl
  where
    pick_is : (g : ℕ) (x : Option ℕ) → is_in g (set_at w R p) ≡ true → ((k : ℕ) → x ≡ Some k → IsBest w R p k → g ≡ k)
        → (((k : ℕ) → x ≡ Some k → IsBest w R p k → ⊥) → (k : ℕ) → IsBest w R p k → g ≤ k) → g ≡ pick (set_at w R p) x
    pick_is g None b keep least =
        let m : g ≤ smallest (set_at w R p) = least (λ k e n. cc) (smallest (set_at w R p)) ((best_law w R p (smallest (set_at w R p)) s).0 (in_smallest (set_at w R p) (set_filled (w - length p) (answers R p)))) in
        omega (arith, smallest_least (set_at w R p) g b)
    pick_is g (Some k) b keep least = elim (cases_Bool (is_in k (set_at w R p))) [
      | inl e ↦ keep k refl ((best_law w R p k s).0 e) ∙ sym (cond-true _ _ _ e)
      | inr e ↦
          let no : (j : ℕ) → Some k ≡ Some j → IsBest w R p j → ⊥ = λ j f n. let kj : k ≡ j = cc in both_ways (is_in k (set_at w R p)) (ap (λ x. is_in x (set_at w R p)) kj ∙ (best_law w R p j s).1 n) e in
          let m : g ≤ smallest (set_at w R p) = least no (smallest (set_at w R p)) ((best_law w R p (smallest (set_at w R p)) s).0 (in_smallest (set_at w R p) (set_filled (w - length p) (answers R p)))) in
          let same : g ≡ smallest (set_at w R p) = omega (arith, smallest_least (set_at w R p) g b) in
          same ∙ sym (cond-false _ _ _ e)
    ]

    by_test : (b : Bool) → is_in h (set_at w R p) ≡ b → o ≡ own (set_at w R p) old h
    by_test true e = i.0 ((best_law w R p h s).0 e) ∙ sym (cond-true _ _ _ e)
    by_test false e =
        let x = i.1 (λ n. both_ways (is_in h (set_at w R p)) ((best_law w R p h s).1 n) e) in
        x.1 ∙ (ap Some (pick_is x.0 old ((best_law w R p x.0 s).1 x.2) x.3 x.4) ∙ sym (cond-false _ _ _ e))

-- tables whose entries follow from what is inherited alone have the same entries
follow : (q : List Bool) (n : ℕ) (F : List Bool → ℕ → Option ℕ) (A B : Table) (h : ℕ) → length q ≤ n
    → ((r : List Bool) → length r ≤ n → root (cut r A) ≡ F r (above r A h)) → ((r : List Bool) → length r ≤ n → root (cut r B) ≡ F r (above r B h)) → root (cut q A) ≡ root (cut q B)
follow [] n F A B h l a b = a [] l ∙ (ap (λ x. F [] (hop_or h (longest x))) (none_above A ∙ sym (none_above B)) ∙ sym (b [] l))
follow (c ∷ q) zero F A B h l a b = absurd (omega arith)
follow (c ∷ q) (suc n) F A B h l a b =
    let e : root A ≡ root B = follow_root in
    follow q n (λ r. F (c ∷ r)) (half c A) (half c B) (inherit (root A) h) (omega arith)
    (λ r m. a (c ∷ r) (omega arith) ∙ ap (F (c ∷ r)) (above_cut c r A h))
    (λ r m. b (c ∷ r) (omega arith) ∙ ap (F (c ∷ r)) (above_cut c r B h ∙ ap (λ o. above r (half c B) (inherit o h)) (sym e)))
  where
    follow_root : root A ≡ root B
    follow_root = a [] (omega arith) ∙ (ap (λ x. F [] (hop_or h (longest x))) (none_above A ∙ sym (none_above B)) ∙ sym (b [] (omega arith)))

pub aggregate_fixed : (w : ℕ) (R : Table) (p : List Bool) (h : ℕ) (old A : Table) → length p ≤ w → IsAggregate w R p h old A → (q : List Bool) → length (p ++ q) ≤ w → entry_at (p ++ q) A ≡ entry_at (p ++ q) (aggregate w R p h old)
aggregate_fixed w R p h old A s i q l =
    let B : Table = aggregate w R p h old in
    let j : IsAggregate w R p h old B = aggregate_is w R p h old s in
    let inner : length q ≤ w - length p = omega (arith, length-append p q) in
    cut_at q A ∙ (follow q (w - length p) (λ r g. own (set_at w R (p ++ r)) (entry_at (p ++ r) old) g) (cut p A) (cut p B) h inner (each A i) (each B j) ∙ sym (cut_at q B))
  where
    cut_at : (r : List Bool) (L : Table) → root (cut (p ++ r) L) ≡ root (cut r (cut p L))
    cut_at r L = ap root (cut_cut p r L)

    each : (L : Table) → IsAggregate w R p h old L → (r : List Bool) → length r ≤ w - length p → root (cut r (cut p L)) ≡ own (set_at w R (p ++ r)) (entry_at (p ++ r) old) (above r (cut p L) h)
    each L k r m =
        let n : length (p ++ r) ≤ w = omega (arith, length-append p r) in
        sym (cut_at r L)
        ∙ (own_fixed w R (p ++ r) (entry_at (p ++ r) old) (above (p ++ r) L h) (entry_at (p ++ r) L) n (k.2 r n)
        ∙ ap (own (set_at w R (p ++ r)) (entry_at (p ++ r) old)) (above_below p r L h ∙ ap (λ x. above r (cut p L) (hop_or h (longest x))) (none_strictly p L k.1)))
