-- The cost of a region, its best hops, and least tables.
use Rattle.std.proofs.Common.{◌≡◌, ℕ, suc, ◌+◌, ◌-◌, ◌<◌, ◌≤◌, List, [], ◌∷◌, ◌++◌, Bool, true, false, cond, ◌↔◌, Option, Some, None, length, map, nat_lt, refl, sym, ap, ◌∙◌, arith, subst, IsTrue, ◌⊎◌, inl, inr}
use Rattle.std.proofs.lemmas.Bool.{cases_Bool}
use Rattle.std.specs.List.{filter}
use Rattle.std.proofs.Common.{length-append, append_assoc}
use Rattle.table_model.specs.Table.{Entry, Table, lpm, longest, longer, hop_or, IsTable, Alike, cut}
use Rattle.table_model.specs.Regions.{IsWithin, lift}
use Rattle.table_model.specs.Least.{Least, LeastWithin}
use Rattle.table_model.specs.Sets.{is_in, joint, apart, side, set_of, k_of, agg, answers, smallest}
use Rattle.table_model.specs.Least.{GivesAnswers}
use Rattle.table_model.specs.Least.{IsCost, IsBest, candidates, set_at, k_at, bound, aggregate}
use Rattle.table_model.proofs.Join.{length_lift, distinct_lift, short_lift, all_weaker}
use Rattle.table_model.proofs.Sets.{miss, without_entry, with_entry, of_the_set, filled, filled_joint, in_first, in_rest, in_smallest, not_missed, in_is_zero}
use Rattle.table_model.proofs.Cost.{lower, agg_answers, agg_length, agg_table, set_filled, set_values, set_alike, k_alike, set_more, k_more, set_uniform, k_uniform}
use Rattle.table_model.proofs.Region.{lpm_within, length_cut_most, lpm_lift, within_lift}

pub region_lower : (w : ℕ) (R : Table) (p : List Bool) (h : ℕ) → length p ≤ w → (L : Table) → IsWithin p L → GivesAnswers w R p h L → k_at w R p + miss h (set_at w R p) ≤ length L
region_lower w R p h s L i g =
    omega (
      arith,
      length_cut_most p L,
      lower (w - length p) (answers R p) (cut p L) h (λ a l. sym (lpm_within p L a h i) ∙ g a (let e : length (p ++ a) ≡ w = omega (arith, length-append p a) in e)),
    )

pub aggregate_gives : (w : ℕ) (R : Table) (p : List Bool) (h : ℕ) (old : Table) → length p ≤ w → GivesAnswers w R p h (aggregate w R p h old)
aggregate_gives w R p h old s a l =
    let d = w - length p in
    let e : length a ≡ d = omega (arith, length-append p a) in
    lpm_lift p (agg d (answers R p) (cut p old) h) a h ∙ agg_answers d (answers R p) (cut p old) h a e

pub aggregate_length : (w : ℕ) (R : Table) (p : List Bool) (h : ℕ) (old : Table) → length (aggregate w R p h old) ≡ k_at w R p + miss h (set_at w R p)
aggregate_length w R p h old = length_lift p _ ∙ agg_length (w - length p) (answers R p) (cut p old) h

pub aggregate_table : (w : ℕ) (R : Table) (p : List Bool) (h : ℕ) (old : Table) → length p ≤ w → IsTable w (aggregate w R p h old)
aggregate_table w R p h old s =
    let d = w - length p in
    let L : Table = agg d (answers R p) (cut p old) h in
    let t : IsTable d L = agg_table d (answers R p) (cut p old) h in
    (distinct_lift p L t.0, all_weaker (λ (e : Entry). length e.prefix ≤ w) (λ (e : Entry). length e.prefix ≤ length p + d) (λ e k. omega arith) (lift p L) (short_lift p d L t.1))

cost_is : (w : ℕ) (R : Table) (p : List Bool) (h : ℕ) → length p ≤ w → IsCost w R p h (k_at w R p + miss h (set_at w R p))
cost_is w R p h s = (
  (aggregate w R p h [], aggregate_table w R p h [] s, within_lift p (agg (w - length p) (answers R p) (cut p []) h), aggregate_gives w R p h [] s, aggregate_length w R p h []),
  λ L t i g. region_lower w R p h s L i g,
)

-- the aggregate of a region is a least table of the region
pub aggregate_least : (w : ℕ) (R : Table) (p : List Bool) (h : ℕ) (old : Table) → length p ≤ w → LeastWithin w R p h (aggregate w R p h old)
aggregate_least w R p h old s = (
  aggregate_table w R p h old s,
  within_lift p (agg (w - length p) (answers R p) (cut p old) h),
  aggregate_gives w R p h old s,
  λ L t i g. omega (arith, aggregate_length w R p h old, region_lower w R p h s L i g),
)

pub region_law : (w : ℕ) (R : Table) (p : List Bool) (h : ℕ) (old : Table) → length p ≤ w → LeastWithin w R p h (aggregate w R p h old) × IsCost w R p h (length (aggregate w R p h old))
region_law w R p h old s = (aggregate_least w R p h old s, subst (IsCost w R p h) (sym (aggregate_length w R p h old)) (cost_is w R p h s))

choose : (b : Bool) (k : ℕ) → k + cond b 0 1 ≡ cond b k (k + 1)
choose true k = omega arith
choose false k = refl

-- the cost of a region is its k where the inherited hop is in its set, else one more
pub cost_law : (w : ℕ) (R : Table) (p : List Bool) (h : ℕ) → length p ≤ w → IsCost w R p h (cond (is_in h (set_at w R p)) (k_at w R p) (k_at w R p + 1))
cost_law w R p h s = subst (IsCost w R p h) (choose (is_in h (set_at w R p)) (k_at w R p)) (cost_is w R p h s)

-- a region has one cost
pub cost_one : (w : ℕ) (R : Table) (p : List Bool) (h k l : ℕ) → IsCost w R p h k → IsCost w R p h l → k ≤ l
cost_one w R p h k l a b = omega (arith, a.1 b.0.0 b.0.1 b.0.2 b.0.3, b.0.4)

-- the hop of an entry, if any, is a hop of the table
abbrev HasHop : Option Entry → Table → Type 0
HasHop None L = Unit {0}
HasHop (Some e) L = is_in e.hop (map (λ f. f.hop) L) ≡ true

has_more : (x : Option Entry) (e : Entry) (L : Table) → HasHop x L → HasHop x (e ∷ L)
has_more None e L h = tt
has_more (Some f) e L h = in_rest e.hop f.hop (map (λ k. k.hop) L) h

has_either : (b : Bool) (e f : Entry) (L : Table) → HasHop (Some f) L → HasHop (Some (cond b f e)) (e ∷ L)
has_either true e f L h = in_rest e.hop f.hop (map (λ k. k.hop) L) h
has_either false e f L h = in_first e.hop e.hop (map (λ k. k.hop) L) refl

has_longer : (x : Option Entry) (e : Entry) (L : Table) → HasHop x L → HasHop (Some (longer e x)) (e ∷ L)
has_longer None e L h = in_first e.hop e.hop (map (λ k. k.hop) L) refl
has_longer (Some f) e L h = has_either (nat_lt (length e.prefix) (length f.prefix)) e f L h

has_kept : (b : Bool) (e : Entry) (L F : Table) → HasHop (longest F) L → HasHop (longest (cond b (e ∷ F) F)) (e ∷ L)
has_kept true e L F h = has_longer (longest F) e L h
has_kept false e L F h = has_more (longest F) e L h

has_longest : (t : Entry → Bool) (L : Table) → HasHop (longest (filter t L)) L
has_longest t [] = tt
has_longest t (e ∷ L) = has_kept (t e) e L (filter t L) (has_longest t L)

has_candidate : (x : Option Entry) (L : Table) → HasHop x L → is_in (hop_or 0 x) (candidates L) ≡ true
has_candidate None L h = in_first 0 0 (map (λ k. k.hop) L) refl
has_candidate (Some e) L h = in_rest 0 e.hop (map (λ k. k.hop) L) h

-- each answer is 0 or a hop of the table
pub lpm_candidate : (L : Table) (a : List Bool) → is_in (lpm L a 0) (candidates L) ≡ true
lpm_candidate L a = has_candidate _ L (has_longest _ L)

set_candidate : (w : ℕ) (R : Table) (p : List Bool) (h : ℕ) → is_in h (set_at w R p) ≡ true → is_in h (candidates R) ≡ true
set_candidate w R p h e =
    let v = set_values (w - length p) (answers R p) h e in
    ap (λ g. is_in g (candidates R)) (sym v.2) ∙ lpm_candidate R (p ++ v.0)

best_in : (w : ℕ) (R : Table) (p : List Bool) (h : ℕ) → length p ≤ w → is_in h (set_at w R p) ≡ true → IsBest w R p h
best_in w R p h s e = (
  set_candidate w R p h e,
  λ g k l i a b.
      omega (
        arith,
        cost_one w R p h k (k_at w R p + miss h (set_at w R p)) a (cost_is w R p h s),
        in_is_zero h (set_at w R p) e,
        cost_one w R p g (k_at w R p + miss g (set_at w R p)) l (cost_is w R p g s) b,
      ),
)

in_best : (w : ℕ) (R : Table) (p : List Bool) (h : ℕ) → length p ≤ w → IsBest w R p h → is_in h (set_at w R p) ≡ true
in_best w R p h s b =
    let S = set_at w R p in
    let g = smallest S in
    let e : is_in g S ≡ true = in_smallest S (set_filled (w - length p) (answers R p)) in
    let z : miss g S ≡ 0 = in_is_zero g S e in
    let m : k_at w R p + miss h S ≤ k_at w R p + miss g S = b.1 g (k_at w R p + miss h S) (k_at w R p + miss g S) (set_candidate w R p g e) (cost_is w R p h s) (cost_is w R p g s) in
    not_missed h S (omega arith)

-- the set of a region is its best hops
pub best_law : (w : ℕ) (R : Table) (p : List Bool) (h : ℕ) → length p ≤ w → IsTrue (is_in h (set_at w R p)) ↔ IsBest w R p h
best_law w R p h s = (λ e. best_in w R p h s e, λ b. in_best w R p h s b)

bound_is : (w : ℕ) (R : Table) → bound w R ≡ k_at w R [] + miss 0 (set_at w R [])
bound_is w R = sym (choose (is_in 0 (set_at w R [])) (k_at w R []))

all_within : (L : Table) → IsWithin [] L
all_within [] = tt
all_within (e ∷ L) = (refl, all_within L)

-- no alike table has fewer entries than the bound
pub bound_law : (w : ℕ) (R L : Table) → Alike w R L → bound w R ≤ length L
bound_law w R L e = omega (arith, bound_is w R, region_lower w R [] 0 (omega arith) L (all_within L) (λ a l. sym (e a l)))

-- the aggregate of the whole space is a least table with as many entries as the bound
pub fresh_law : (w : ℕ) (R old : Table) → IsTable w (aggregate w R [] 0 old) × Least w R (aggregate w R [] 0 old) × (length (aggregate w R [] 0 old) ≡ bound w R)
fresh_law w R old =
    let n : length (aggregate w R [] 0 old) ≡ bound w R = aggregate_length w R [] 0 old ∙ sym (bound_is w R) in (
      aggregate_table w R [] 0 old (omega arith),
      (λ a l. sym (aggregate_gives w R [] 0 old (omega arith) a l), λ L t e. omega (arith, bound_law w R L e)),
      n,
    )

-- a region's set and k from those of its halves
answers_half : (R : Table) (p : List Bool) (b : Bool) (a : List Bool) → answers R p (b ∷ a) ≡ answers R (p ++ (b ∷ [])) a
answers_half R p b a = ap (λ x. lpm R x 0) (sym (append_assoc p (b ∷ []) a))

set_half : (w : ℕ) (R : Table) (p : List Bool) (b : Bool) (d : ℕ) → d ≡ w - length (p ++ (b ∷ [])) → set_of d (side b (answers R p)) ≡ set_at w R (p ++ (b ∷ []))
set_half w R p b d e = ap (λ x. set_of x (side b (answers R p))) e ∙ set_alike (w - length (p ++ (b ∷ []))) (side b (answers R p)) (answers R (p ++ (b ∷ []))) (λ a l. answers_half R p b a)

k_half : (w : ℕ) (R : Table) (p : List Bool) (b : Bool) (d : ℕ) → d ≡ w - length (p ++ (b ∷ [])) → k_of d (side b (answers R p)) ≡ k_at w R (p ++ (b ∷ []))
k_half w R p b d e = ap (λ x. k_of x (side b (answers R p))) e ∙ k_alike (w - length (p ++ (b ∷ []))) (side b (answers R p)) (answers R (p ++ (b ∷ []))) (λ a l. answers_half R p b a)

pub set_join : (w : ℕ) (R : Table) (p : List Bool) → length p < w → set_at w R p ≡ joint (set_at w R (p ++ (false ∷ []))) (set_at w R (p ++ (true ∷ [])))
set_join w R p s =
    let d = w - suc (length p) in
    let e : w - length p ≡ suc d = omega arith in
    let low : d ≡ w - length (p ++ (false ∷ [])) = omega (arith, length-append p (false ∷ [])) in
    let high : d ≡ w - length (p ++ (true ∷ [])) = omega (arith, length-append p (true ∷ [])) in
    ap (λ x. set_of x (answers R p)) e ∙ (set_more d (answers R p)
    ∙ (ap (λ x. joint x (set_of d (side true (answers R p)))) (set_half w R p false d low) ∙ ap (joint (set_at w R (p ++ (false ∷ [])))) (set_half w R p true d high)))

pub k_join : (w : ℕ) (R : Table) (p : List Bool) → length p < w → k_at w R p ≡ k_at w R (p ++ (false ∷ [])) + k_at w R (p ++ (true ∷ [])) + apart (set_at w R (p ++ (false ∷ []))) (set_at w R (p ++ (true ∷ [])))
k_join w R p s =
    let d = w - suc (length p) in
    let e : w - length p ≡ suc d = omega arith in
    let low : d ≡ w - length (p ++ (false ∷ [])) = omega (arith, length-append p (false ∷ [])) in
    let high : d ≡ w - length (p ++ (true ∷ [])) = omega (arith, length-append p (true ∷ [])) in
    let gap : apart (set_of d (side false (answers R p))) (set_of d (side true (answers R p))) ≡ apart (set_at w R (p ++ (false ∷ []))) (set_at w R (p ++ (true ∷ []))) =
    ap (λ x. apart x (set_of d (side true (answers R p)))) (set_half w R p false d low) ∙ ap (apart (set_at w R (p ++ (false ∷ [])))) (set_half w R p true d high)
    in
    ap (λ x. k_of x (answers R p)) e ∙ (k_more d (answers R p) ∙ omega (arith, k_half w R p false d low, k_half w R p true d high, gap))

pub set_leaf : (w : ℕ) (R : Table) (p : List Bool) (h : ℕ) → length p ≤ w → ((a : List Bool) → length (p ++ a) ≡ w → lpm R (p ++ a) 0 ≡ h) → set_at w R p ≡ h ∷ []
set_leaf w R p h s e = set_uniform (w - length p) (answers R p) h (λ a l. e a (let n : length (p ++ a) ≡ w = omega (arith, length-append p a) in n))

pub k_leaf : (w : ℕ) (R : Table) (p : List Bool) (h : ℕ) → length p ≤ w → ((a : List Bool) → length (p ++ a) ≡ w → lpm R (p ++ a) 0 ≡ h) → k_at w R p ≡ 0
k_leaf w R p h s e = k_uniform (w - length p) (answers R p) h (λ a l. e a (let n : length (p ++ a) ≡ w = omega (arith, length-append p a) in n))

one_more : (w : ℕ) (p : List Bool) (b : Bool) → length p < w → length (p ++ (b ∷ [])) ≤ w
one_more w p b s = omega (arith, length-append p (b ∷ []))

-- more entries than the bound are too many
pub not_least : (w : ℕ) (R T : Table) → (bound w R < length T) ↔ ((L : Table) × IsTable w L × Alike w R L × (length L < length T))
not_least w R T = (
  λ n. let f = fresh_law w R [] in (aggregate w R [] 0 [], f.0, f.1.0, omega (arith, f.2)),
  λ (L, t, e, n). omega (arith, bound_law w R L e),
)

-- the cost of a region from the costs of its halves
pub cost_halves : (w : ℕ) (R : Table) (p : List Bool) (h c : ℕ) (low high : ℕ → ℕ) → length p < w → IsCost w R p h c
    → ((g : ℕ) → IsCost w R (p ++ (false ∷ [])) g (low g)) → ((g : ℕ) → IsCost w R (p ++ (true ∷ [])) g (high g))
    → (c ≤ low h + high h) × ((g : ℕ) → c ≤ 1 + low g + high g) × ((c ≡ low h + high h) ⊎ ((g : ℕ) × (c ≡ 1 + low g + high g)))
cost_halves w R p h c low high s is l u =
    let S = set_at w R (p ++ (false ∷ [])) in
    let T = set_at w R (p ++ (true ∷ [])) in
    let k = k_at w R (p ++ (false ∷ [])) in
    let m = k_at w R (p ++ (true ∷ [])) in
    let whole : c ≡ k + m + apart S T + miss h (joint S T) =
    exact w R p h c (k_at w R p + miss h (set_at w R p)) is (cost_is w R p h (omega arith)) ∙ (ap (λ x. x + miss h (set_at w R p)) (k_join w R p s) ∙ ap (λ x. k + m + apart S T + miss h x) (set_join w R p s))
    in
    let lows : (g : ℕ) → low g ≡ k + miss g S = λ g. exact w R (p ++ (false ∷ [])) g (low g) (k + miss g S) (l g) (cost_is w R (p ++ (false ∷ [])) g (one_more w p false s)) in
    let highs : (g : ℕ) → high g ≡ m + miss g T = λ g. exact w R (p ++ (true ∷ [])) g (high g) (m + miss g T) (u g) (cost_is w R (p ++ (true ∷ [])) g (one_more w p true s)) in
    let full : filled (joint S T) ≡ true = filled_joint S T (set_filled (w - length (p ++ (false ∷ []))) (answers R (p ++ (false ∷ [])))) in
    let g = smallest (joint S T) in (
      omega (arith, whole, lows h, highs h, without_entry S T h),
      λ x. omega (arith, whole, lows x, highs x, with_entry S T x h),
      elim (cases_Bool (is_in h (joint S T))) [
        | inl e ↦ inl (omega (arith, whole, lows h, highs h, of_the_set S T h e, in_is_zero h (joint S T) e))
        | inr e ↦ inr (g, let z : miss h (joint S T) ≡ 1 = ap (λ (b : Bool). cond b 0 1) e in omega (arith, whole, z, lows g, highs g, of_the_set S T g (in_smallest (joint S T) full)))
      ],
    )
  where
    exact : (w : ℕ) (R : Table) (q : List Bool) (g a b : ℕ) → IsCost w R q g a → IsCost w R q g b → a ≡ b
    exact w R q g a b x y = omega (arith, cost_one w R q g a b x y, cost_one w R q g b a y x)
