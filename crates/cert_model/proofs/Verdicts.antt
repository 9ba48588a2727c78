-- The verdict is that nothing is wrong exactly where the rows are a certificate, and what each No says.
use Rattle.std.proofs.Common.{◌≡◌, ◌≢◌, ℕ, ◌<◌, ◌≤◌, List, [], ◌∷◌, ◌++◌, Bool, true, false, cond, Option, Some, None, inl, inr, length, nat_lt, refl, sym, ap, ◌∙◌, arith, ◌↔◌}
use Rattle.std.specs.Prelude.{option_map, ◌||◌}
use Rattle.std.specs.List.{AllByRecursion, IsDistinct, list_any}
use Rattle.std.specs.Map.{keys_of}
use Rattle.std.proofs.lemmas.Bool.{cond-true, cond-false, lt-ltb, le-ltb, cases_lt}
use Rattle.std.specs.Option.{option_or}
use Rattle.table_model.specs.Width.{width}
use Rattle.table_model.specs.Address.{Prefix, same_prefix}
use Rattle.table_model.specs.declared.family.Family.{Family}
use Rattle.table_model.specs.declared.family.Family.TheVariants.{V4, V6}
use Rattle.table_model.specs.Table.{Table, IsTable, Alike}
use Rattle.table_model.specs.Entries.{Entries, of_family}
use Rattle.table_model.specs.Least.{bound}
use Rattle.table_model.proofs.Laws.{not_least}
use Rattle.cert_model.specs.Rows.{CertRow, bound_row}
use Rattle.cert_model.specs.Right.{HaveBound, IsCertificate}
use Rattle.cert_model.specs.Verdict.{No, Twice, NotLeast, twice, not_same, wrong_row, RowFits, too_many_in, verdict}
use Rattle.cert_model.proofs.Rules.{bound_is}
use Rattle.cert_model.proofs.Differing.{none_of, same_is_alike, alike_is_same}
use Rattle.cert_model.proofs.Reading.{passes_family, fronts, nothing_left}

-- ---- prefixes that stand twice

apart_all : (p : Prefix) (ps : List Prefix) → list_any (same_prefix p) ps ≡ false → AllByRecursion (λ q. same_prefix p q ≡ false) ps
apart_all p [] e = tt
apart_all p (q ∷ ps) e = by_test (same_prefix p q) refl e (λ f. apart_all p ps f)
  where
    by_test : (b : Bool) → same_prefix p q ≡ b → (b || list_any (same_prefix p) ps) ≡ false → (list_any (same_prefix p) ps ≡ false → AllByRecursion (λ r. same_prefix p r ≡ false) ps)
        → (same_prefix p q ≡ false) × AllByRecursion (λ r. same_prefix p r ≡ false) ps
    by_test true t z later = cc
    by_test false t z later = (t, later z)

none_there : (p : Prefix) (ps : List Prefix) → AllByRecursion (λ q. same_prefix p q ≡ false) ps → list_any (same_prefix p) ps ≡ false
none_there p [] a = refl
none_there p (q ∷ ps) a = ap (λ b. b || list_any (same_prefix p) ps) a.0 ∙ none_there p ps a.1

pub once_is : (L : Entries) → twice L ≡ None → IsDistinct same_prefix (keys_of L)
unfolding IsDistinct
once_is [] e = tt
once_is (x ∷ L) e = by_test (list_any (same_prefix x.0) (keys_of L)) refl e (λ f. once_is L f)
  where
    by_test : (b : Bool) → list_any (same_prefix x.0) (keys_of L) ≡ b → cond b (Some x.0) (twice L) ≡ None → (twice L ≡ None → IsDistinct same_prefix (keys_of L))
        → AllByRecursion (λ q. same_prefix x.0 q ≡ false) (keys_of L) × IsDistinct same_prefix (keys_of L)
    by_test true t z later = cc
    by_test false t z later = (apart_all x.0 (keys_of L) t, later z)

pub once_from : (L : Entries) → IsDistinct same_prefix (keys_of L) → twice L ≡ None
unfolding IsDistinct
once_from [] d = refl
once_from (x ∷ L) d = cond-false _ _ _ (none_there x.0 (keys_of L) d.0) ∙ once_from L d.1

-- ---- too many entries

few_is : (R T : Entries) (f : Family) → too_many_in R T f ≡ None → length (of_family f T) ≤ bound (width f) (of_family f R)
few_is R T f e = elim (cases_lt (bound (width f) (of_family f R)) (length (of_family f T))) [
  | inl t ↦ absurd (said (bound (width f) (of_family f R)) (length (of_family f T)) (lt-ltb (bound (width f) (of_family f R)) (length (of_family f T)) t) e)
  | inr t ↦ t
]
  where
    said : (m n : ℕ) → nat_lt m n ≡ true → cond (nat_lt m n) (Some (NotLeast f n m)) None ≡ None → ⊥
    said m n t z = let x : Some (NotLeast f n m) ≡ None = sym (cond-true _ _ _ t) ∙ z in cc

few_from : (R T : Entries) (f : Family) → length (of_family f T) ≤ bound (width f) (of_family f R) → too_many_in R T f ≡ None
few_from R T f n = cond-false _ _ _ (le-ltb (bound (width f) (of_family f R)) (length (of_family f T)) n)

over : (R T : Entries) (f : Family) → (too_many_in R T f ≢ None) ↔ (bound (width f) (of_family f R) < length (of_family f T))
over R T f = (
  λ n. elim (cases_lt (bound (width f) (of_family f R)) (length (of_family f T))) [
    | inl t ↦ t
    | inr t ↦ absurd (n (few_from R T f t))
  ],
  λ t e. let n : length (of_family f T) ≤ bound (width f) (of_family f R) = few_is R T f e in absurd (omega arith),
)

pub not_least_law : (R T : Entries) (f : Family) → (too_many_in R T f ≢ None) ↔ ((L : Table) × IsTable (width f) L × Alike (width f) (of_family f R) L × (length L < length (of_family f T)))
not_least_law R T f =
    let l = not_least (width f) (of_family f R) (of_family f T) in
    (λ n. l.0 ((over R T f).0 n), λ x. (over R T f).1 (l.1 x))

-- ---- the whole

no_twice : (o : Option Prefix) → option_map Twice o ≡ None → o ≡ None
no_twice None e = refl
no_twice (Some p) e = cc

pub verdict_is : (R T : Entries) (rows : List CertRow) → AllByRecursion RowFits rows → verdict R T rows ≡ None → IsCertificate R T rows
verdict_is R T rows a e =
    let wrong = wrong_row R rows (V4 ∷ V6 ∷ []) [] 1 in
    let many = option_or (too_many_in R T V4) (too_many_in R T V6) in
    let x1 = none_of (option_map Twice (twice R)) (option_or (option_map Twice (twice T)) (option_or (not_same R T) (option_or wrong many))) e in
    let x2 = none_of (option_map Twice (twice T)) (option_or (not_same R T) (option_or wrong many)) x1.1 in
    let x3 = none_of (not_same R T) (option_or wrong many) x2.1 in
    let x4 = none_of wrong many x3.1 in
    let x5 = none_of (too_many_in R T V4) (too_many_in R T V6) x4.1 in
    let (low, m4, more, S4, k4, n, e4, r4, b4, w, a4) = fronts R rows V4 (V6 ∷ []) [] 1 a tt x4.0 in
    let (high, m6, rest, S6, k6, l, e6, r6, b6, v, a6) = fronts R more V6 [] [] n a4 tt w in
    let none : rest ≡ [] = nothing_left R rest [] l v in
    let h4 : HaveBound R V4 low m4 = (S4, k4, r4, b4) in
    let h6 : HaveBound R V6 high m6 = (S6, k6, r6, b6) in
    record {
      routes_once = once_is R (no_twice (twice R) x1.0);
      table_once = once_is T (no_twice (twice T) x2.0);
      alike = same_is_alike R T x3.0;
      rows_v4 = low;
      rows_v6 = high;
      bound_v4 = m4;
      bound_v6 = m6;
      parts = e4 ∙ ap (λ xs. low ++ (bound_row V4 m4 ∷ xs)) (e6 ∙ ap (λ xs. high ++ (bound_row V6 m6 ∷ xs)) none);
      right_v4 = h4;
      right_v6 = h6;
      few_v4 = omega (arith, bound_is R V4 low m4 h4, few_is R T V4 x5.0);
      few_v6 = omega (arith, bound_is R V6 high m6 h6, few_is R T V6 x5.1);
    }

empty : (R : Entries) (n : ℕ) → wrong_row R [] [] [] n ≡ None
unfolding wrong_row
empty R n = refl

pub verdict_from : (R T : Entries) (rows : List CertRow) → IsCertificate R T rows → verdict R T rows ≡ None
verdict_from R T rows c =
    let p4 = passes_family R c.rows_v4 (c.rows_v6 ++ (bound_row V6 c.bound_v6 ∷ [])) V4 (V6 ∷ []) c.bound_v4 1 c.right_v4 in
    let p6 = passes_family R c.rows_v6 [] V6 [] c.bound_v6 p4.0 c.right_v6 in
    let n4 : length (of_family V4 T) ≤ bound 32 (of_family V4 R) = omega (arith, bound_is R V4 c.rows_v4 c.bound_v4 c.right_v4, c.few_v4) in
    let n6 : length (of_family V6 T) ≤ bound 128 (of_family V6 R) = omega (arith, bound_is R V6 c.rows_v6 c.bound_v6 c.right_v6, c.few_v6) in
    let read : wrong_row R rows (V4 ∷ V6 ∷ []) [] 1 ≡ None = ap (λ xs. wrong_row R xs (V4 ∷ V6 ∷ []) [] 1) c.parts ∙ (p4.1 ∙ (p6.1 ∙ empty R p6.0)) in
    let few : option_or (too_many_in R T V4) (too_many_in R T V6) ≡ None = ap (λ x. option_or x (too_many_in R T V6)) (few_from R T V4 n4) ∙ few_from R T V6 n6 in
    both (option_map Twice (twice R)) _ (ap (option_map Twice) (once_from R c.routes_once))
    (both (option_map Twice (twice T)) _ (ap (option_map Twice) (once_from T c.table_once)) (both (not_same R T) _ (alike_is_same R T c.alike) (both (wrong_row R rows (V4 ∷ V6 ∷ []) [] 1) _ read few)))
  where
    both : (x y : Option No) → x ≡ None → y ≡ None → option_or x y ≡ None
    both x y e f = ap (λ z. option_or z y) e ∙ f

pub verdict_law : (R T : Entries) (rows : List CertRow) → AllByRecursion RowFits rows → (verdict R T rows ≡ None) ↔ IsCertificate R T rows
verdict_law R T rows a = (verdict_is R T rows a, verdict_from R T rows)

pub twice_law : (L : Entries) → (twice L ≡ None) ↔ IsDistinct same_prefix (keys_of L)
twice_law L = (once_is L, once_from L)
