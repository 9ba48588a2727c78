-- Joining two halves and an entry at the root.
use Rattle.std.proofs.Common.{◌≡◌, ◌≢◌, ℕ, suc, ◌+◌, ◌≤◌, List, [], ◌∷◌, ◌++◌, Bool, true, false, not, Option, Some, None, length, map, refl, ap, ◌∙◌, arith}
use Rattle.std.specs.List.{AllByRecursion}
use Rattle.std.proofs.Common.{length-append}
use Rattle.std.proofs.lemmas.List.{append-nil}
use Rattle.table_model.specs.Table.{Entry, Table, Distinct, IsTable, root, inherit, half, half_of, here, lpm}
use Rattle.table_model.specs.Regions.{lift, join}
use Rattle.table_model.proofs.Cut.{entry, lpm_cut}

module _ {X : Type 0} (P : X → Type 0) where
  pub all_append : (xs ys : List X) → AllByRecursion P xs → AllByRecursion P ys → AllByRecursion P (xs ++ ys)
  all_append [] ys h k = k
  all_append (x ∷ xs) ys h k = (h.0, all_append xs ys h.1 k)

  pub all_map : {Y : Type 0} (f : Y → X) (ys : List Y) → AllByRecursion (λ y. P (f y)) ys → AllByRecursion P (map f ys)
  all_map f [] h = tt
  all_map f (y ∷ ys) h = (h.0, all_map f ys h.1)

  pub all_from : ((x : X) → P x) → (xs : List X) → AllByRecursion P xs
  all_from f [] = tt
  all_from f (x ∷ xs) = (f x, all_from f xs)

  pub all_weaker : (Q : X → Type 0) → ((x : X) → Q x → P x) → (xs : List X) → AllByRecursion Q xs → AllByRecursion P xs
  all_weaker Q f [] h = tt
  all_weaker Q f (x ∷ xs) h = (f x h.0, all_weaker Q f xs h.1)

half_of_append : (b : Bool) (p : List Bool) (g : ℕ) (L M : Table) → half_of b p g (L ++ M) ≡ half_of b p g L ++ M
half_of_append true [] g L M = refl
half_of_append false [] g L M = refl
half_of_append true (true ∷ p) g L M = refl
half_of_append true (false ∷ p) g L M = refl
half_of_append false (true ∷ p) g L M = refl
half_of_append false (false ∷ p) g L M = refl

pub half_append : (b : Bool) (L M : Table) → half b (L ++ M) ≡ half b L ++ half b M
half_append b [] M = refl
half_append b (e ∷ L) M = ap (half_of b e.prefix e.hop) (half_append b L M) ∙ half_of_append b e.prefix e.hop (half b L) (half b M)

pub half_same : (b : Bool) (L : Table) → half b (lift (b ∷ []) L) ≡ L
half_same b [] = refl
half_same true (e ∷ L) = ap (λ M. e ∷ M) (half_same true L)
half_same false (e ∷ L) = ap (λ M. e ∷ M) (half_same false L)

pub half_other : (b : Bool) (L : Table) → half b (lift (not b ∷ []) L) ≡ []
half_other b [] = refl
half_other true (e ∷ L) = half_other true L
half_other false (e ∷ L) = half_other false L

half_here : (b : Bool) (o : Option ℕ) → half b (here o) ≡ []
half_here true None = refl
half_here true (Some g) = refl
half_here false None = refl
half_here false (Some g) = refl

root_lift : (b : Bool) (L M : Table) → root (lift (b ∷ []) L ++ M) ≡ root M
root_lift b [] M = refl
root_lift b (e ∷ L) M = root_lift b L M

root_lifted : (b : Bool) (L : Table) → root (lift (b ∷ []) L) ≡ None
root_lifted b [] = refl
root_lifted b (e ∷ L) = root_lifted b L

-- what a joined table is made of
pub root_join : (o : Option ℕ) (L M : Table) → root (join o L M) ≡ o
root_join None L M = root_lift false L (lift (true ∷ []) M) ∙ root_lifted true M
root_join (Some g) L M = refl

pub low_join : (o : Option ℕ) (L M : Table) → half false (join o L M) ≡ L
low_join o L M =
    half_append false (here o) (lift (false ∷ []) L ++ lift (true ∷ []) M)
    ∙ ap (λ x. x ++ half false (lift (false ∷ []) L ++ lift (true ∷ []) M)) (half_here false o)
    ∙ half_append false (lift (false ∷ []) L) (lift (true ∷ []) M)
    ∙ ap (λ x. x ++ half false (lift (true ∷ []) M)) (half_same false L)
    ∙ ap (λ x. L ++ x) (half_other false M)
    ∙ append-nil L

pub high_join : (o : Option ℕ) (L M : Table) → half true (join o L M) ≡ M
high_join o L M =
    half_append true (here o) (lift (false ∷ []) L ++ lift (true ∷ []) M)
    ∙ ap (λ x. x ++ half true (lift (false ∷ []) L ++ lift (true ∷ []) M)) (half_here true o)
    ∙ half_append true (lift (false ∷ []) L) (lift (true ∷ []) M)
    ∙ ap (λ x. x ++ half true (lift (true ∷ []) M)) (half_other true L)
    ∙ half_same true M

pub length_lift : (p : List Bool) (L : Table) → length (lift p L) ≡ length L
length_lift p [] = refl
length_lift p (e ∷ L) = ap suc (length_lift p L)

pub length_join : (o : Option ℕ) (L M : Table) → length (join o L M) ≡ length (here o) + length L + length M
length_join o L M = omega (arith, length-append (here o) (lift (false ∷ []) L ++ lift (true ∷ []) M), length-append (lift (false ∷ []) L) (lift (true ∷ []) M), length_lift (false ∷ []) L, length_lift (true ∷ []) M)

pub lpm_join_low : (o : Option ℕ) (L M : Table) (a : List Bool) (h : ℕ) → lpm (join o L M) (false ∷ a) h ≡ lpm L a (inherit o h)
lpm_join_low o L M a h = lpm_cut (join o L M) false a h ∙ ap (λ x. lpm x a (inherit (root (join o L M)) h)) (low_join o L M) ∙ ap (λ x. lpm L a (inherit x h)) (root_join o L M)

pub lpm_join_high : (o : Option ℕ) (L M : Table) (a : List Bool) (h : ℕ) → lpm (join o L M) (true ∷ a) h ≡ lpm M a (inherit o h)
lpm_join_high o L M a h = lpm_cut (join o L M) true a h ∙ ap (λ x. lpm x a (inherit (root (join o L M)) h)) (high_join o L M) ∙ ap (λ x. lpm M a (inherit x h)) (root_join o L M)

-- distinct prefixes
pub distinct_append : (L M : Table) → Distinct L → Distinct M → AllByRecursion (λ e. AllByRecursion (λ f. e.prefix ≢ f.prefix) M) L → Distinct (L ++ M)
distinct_append [] M d c h = c
distinct_append (e ∷ L) M d c h = (all_append (λ (f : Entry). e.prefix ≢ f.prefix) L M d.0 h.0, distinct_append L M d.1 c h.1)

append_same : (p a c : List Bool) → p ++ a ≡ p ++ c → a ≡ c
append_same [] a c e = e
append_same (b ∷ p) a c e = let r : p ++ a ≡ p ++ c = cc in append_same p a c r

pub distinct_lift : (p : List Bool) (L : Table) → Distinct L → Distinct (lift p L)
distinct_lift p [] d = tt
distinct_lift p (e ∷ L) d = (
  all_map (λ (f : Entry). p ++ e.prefix ≢ f.prefix) (λ (f : Entry). entry (p ++ f.prefix) f.hop) L
      (all_weaker (λ (f : Entry). p ++ e.prefix ≢ p ++ f.prefix) (λ (f : Entry). e.prefix ≢ f.prefix) (λ f ne eq. ne (append_same p e.prefix f.prefix eq)) L d.0),
  distinct_lift p L d.1,
)

apart_lifts : (L M : Table) → AllByRecursion (λ e. AllByRecursion (λ f. e.prefix ≢ f.prefix) (lift (true ∷ []) M)) (lift (false ∷ []) L)
apart_lifts L M =
    all_map (λ (e : Entry). AllByRecursion (λ (f : Entry). e.prefix ≢ f.prefix) (lift (true ∷ []) M)) (λ (e : Entry). entry (false ∷ e.prefix) e.hop) L
    (all_from _ (λ e. all_map (λ (f : Entry). false ∷ e.prefix ≢ f.prefix) (λ (f : Entry). entry (true ∷ f.prefix) f.hop) M (all_from _ (λ f eq. cc) M)) L)

distinct_here : (o : Option ℕ) → Distinct (here o)
distinct_here None = tt
distinct_here (Some g) = (tt, tt)

nil_apart : (b : Bool) (L : Table) → AllByRecursion (λ (f : Entry). [] ≢ f.prefix) (lift (b ∷ []) L)
nil_apart b L = all_map (λ (f : Entry). [] ≢ f.prefix) (λ (f : Entry). entry (b ∷ f.prefix) f.hop) L (all_from _ (λ f eq. cc) L)

here_apart : (o : Option ℕ) (L M : Table) → AllByRecursion (λ e. AllByRecursion (λ f. e.prefix ≢ f.prefix) (lift (false ∷ []) L ++ lift (true ∷ []) M)) (here o)
here_apart None L M = tt
here_apart (Some g) L M = (all_append (λ (f : Entry). [] ≢ f.prefix) (lift (false ∷ []) L) (lift (true ∷ []) M) (nil_apart false L) (nil_apart true M), tt)

pub distinct_join : (o : Option ℕ) (L M : Table) → Distinct L → Distinct M → Distinct (join o L M)
distinct_join o L M d c =
    distinct_append (here o) (lift (false ∷ []) L ++ lift (true ∷ []) M) (distinct_here o)
    (distinct_append (lift (false ∷ []) L) (lift (true ∷ []) M) (distinct_lift (false ∷ []) L d) (distinct_lift (true ∷ []) M c) (apart_lifts L M))
    (here_apart o L M)

pub short_lift : (p : List Bool) (w : ℕ) (L : Table) → AllByRecursion (λ (e : Entry). length e.prefix ≤ w) L → AllByRecursion (λ (e : Entry). length e.prefix ≤ length p + w) (lift p L)
short_lift p w L h =
    all_map (λ (e : Entry). length e.prefix ≤ length p + w) (λ (e : Entry). entry (p ++ e.prefix) e.hop) L
    (all_weaker (λ (e : Entry). length (p ++ e.prefix) ≤ length p + w) (λ (e : Entry). length e.prefix ≤ w) (λ e k. omega (arith, length-append p e.prefix)) L h)

short_here : (o : Option ℕ) (w : ℕ) → AllByRecursion (λ (e : Entry). length e.prefix ≤ w) (here o)
short_here None w = tt
short_here (Some g) w = (omega arith, tt)

pub table_here : (o : Option ℕ) (w : ℕ) → IsTable w (join o [] [])
table_here None w = (tt, tt)
table_here (Some g) w = ((tt, tt), (omega arith, tt))

pub table_join : (o : Option ℕ) (w : ℕ) (L M : Table) → IsTable w L → IsTable w M → IsTable (suc w) (join o L M)
table_join o w L M d c = (
  distinct_join o L M d.0 c.0,
  all_append (λ (e : Entry). length e.prefix ≤ suc w) (here o) (lift (false ∷ []) L ++ lift (true ∷ []) M) (short_here o (suc w))
      (all_append (λ (e : Entry). length e.prefix ≤ suc w) (lift (false ∷ []) L) (lift (true ∷ []) M) (one_more false w L d.1) (one_more true w M c.1)),
)
  where
    one_more : (b : Bool) (w : ℕ) (L : Table) → AllByRecursion (λ (e : Entry). length e.prefix ≤ w) L → AllByRecursion (λ (e : Entry). length e.prefix ≤ suc w) (lift (b ∷ []) L)
    one_more b w L h = all_weaker (λ (e : Entry). length e.prefix ≤ suc w) (λ (e : Entry). length e.prefix ≤ 1 + w) (λ e k. omega arith) (lift (b ∷ []) L) (short_lift (b ∷ []) w L h)
