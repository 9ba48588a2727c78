-- The cost law, over a region of d more bits with the answers f.
use Rattle.std.proofs.Common.{◌≡◌, ℕ, zero, suc, ◌+◌, ◌-◌, ◌≤◌, List, [], ◌∷◌, ◌++◌, Bool, true, false, cond, inl, inr, Option, Some, None, length, refl, sym, ap, ◌∙◌, arith}
use Rattle.table_model.specs.Table.{Table, lpm, hop_or, longest, IsTable, root, inherit, half, cut, here}
use Rattle.table_model.specs.Regions.{join, above}
use Rattle.table_model.specs.Sets.{is_in, or_else, joint, one_if_empty, apart, side, set_of, k_of, own, agg}
use Rattle.table_model.proofs.Cut.{lpm_cut, lpm_nil, length_parts}
use Rattle.table_model.proofs.Above.{none_above, above_cut}
use Rattle.table_model.proofs.Join.{root_join, low_join, high_join, length_join, lpm_join_low, lpm_join_high, table_here, table_join}
use Rattle.table_model.proofs.Sets.{miss, without_entry, with_entry, of_the_set, filled, filled_joint, in_own, length_own, in_single, miss_single, miss_most, in_joint, in_first}

lower_step : (o : Option ℕ) (h k l : ℕ) (S T : List ℕ) (m n all : ℕ) → k + miss (inherit o h) S ≤ m → l + miss (inherit o h) T ≤ n → length (here o) + m + n ≤ all → k + l + apart S T + miss h (joint S T) ≤ all
lower_step None h k l S T m n all a b c = omega (arith, without_entry S T h)
lower_step (Some g) h k l S T m n all a b c = omega (arith, with_entry S T g h)

lower_zero : (f : List Bool → ℕ) (L : Table) (h : ℕ) → lpm L [] h ≡ f [] → 0 + miss h (f [] ∷ []) ≤ length L
lower_zero f [] h e = omega (arith, miss_single h, ap (λ g. miss h (g ∷ [])) e)
lower_zero f (x ∷ L) h e = omega (arith, miss_most h (f [] ∷ []))

-- every list of entries with these answers has so many
pub lower : (d : ℕ) (f : List Bool → ℕ) (L : Table) (h : ℕ) → ((a : List Bool) → length a ≡ d → lpm L a h ≡ f a) → k_of d f + miss h (set_of d f) ≤ length L
unfolding k_of set_of
lower zero f L h e = lower_zero f L h (e [] refl)
lower (suc d) f L h e =
    lower_step (root L) h (k_of d (side false f)) (k_of d (side true f)) (set_of d (side false f)) (set_of d (side true f)) (length (half false L)) (length (half true L)) (length L)
    (lower d (side false f) (half false L) (inherit (root L) h) (λ a l. sym (lpm_cut L false a h) ∙ e (false ∷ a) (ap suc l)))
    (lower d (side true f) (half true L) (inherit (root L) h) (λ a l. sym (lpm_cut L true a h) ∙ e (true ∷ a) (ap suc l)))
    (length_parts L)

pub set_filled : (d : ℕ) (f : List Bool → ℕ) → filled (set_of d f) ≡ true
unfolding set_of
set_filled zero f = refl
set_filled (suc d) f = filled_joint (set_of d (side false f)) (set_of d (side true f)) (set_filled d (side false f))

pub agg_answers : (d : ℕ) (f : List Bool → ℕ) (old : Table) (h : ℕ) (a : List Bool) → length a ≡ d → lpm (agg d f old h) a h ≡ f a
unfolding agg set_of
agg_answers zero f old h [] e =
    let o = own (f [] ∷ []) (root old) h in
    lpm_nil (join o [] []) h ∙ (ap (λ x. inherit x h) (root_join o [] []) ∙ sym (in_single (f []) (inherit o h) (in_own (f [] ∷ []) (root old) h refl)))
agg_answers zero f old h (b ∷ a) e = absurd (omega arith)
agg_answers (suc d) f old h [] e = absurd (omega arith)
agg_answers (suc d) f old h (false ∷ a) e =
    let o = own (set_of (suc d) f) (root old) h in
    lpm_join_low o (agg d (side false f) (half false old) (inherit o h)) (agg d (side true f) (half true old) (inherit o h)) a h
    ∙ agg_answers d (side false f) (half false old) (inherit o h) a (omega arith)
agg_answers (suc d) f old h (true ∷ a) e =
    let o = own (set_of (suc d) f) (root old) h in
    lpm_join_high o (agg d (side false f) (half false old) (inherit o h)) (agg d (side true f) (half true old) (inherit o h)) a h
    ∙ agg_answers d (side true f) (half true old) (inherit o h) a (omega arith)

pub agg_length : (d : ℕ) (f : List Bool → ℕ) (old : Table) (h : ℕ) → length (agg d f old h) ≡ k_of d f + miss h (set_of d f)
unfolding agg set_of k_of
agg_length zero f old h =
    let o = own (f [] ∷ []) (root old) h in
    omega (arith, length_join o [] [], length_own (f [] ∷ []) (root old) h)
agg_length (suc d) f old h =
    let S = set_of d (side false f) in
    let T = set_of d (side true f) in
    let o = own (joint S T) (root old) h in
    let in_it : is_in (inherit o h) (joint S T) ≡ true = in_own (joint S T) (root old) h (set_filled (suc d) f) in
    omega (
      arith,
      length_join o (agg d (side false f) (half false old) (inherit o h)) (agg d (side true f) (half true old) (inherit o h)),
      length_own (joint S T) (root old) h,
      of_the_set S T (inherit o h) in_it,
      agg_length d (side false f) (half false old) (inherit o h),
      agg_length d (side true f) (half true old) (inherit o h),
    )

pub agg_table : (d : ℕ) (f : List Bool → ℕ) (old : Table) (h : ℕ) → IsTable d (agg d f old h)
unfolding agg
agg_table zero f old h = table_here (own (set_of zero f) (root old) h) 0
agg_table (suc d) f old h =
    let o = own (set_of (suc d) f) (root old) h in
    table_join o d (agg d (side false f) (half false old) (inherit o h)) (agg d (side true f) (half true old) (inherit o h))
    (agg_table d (side false f) (half false old) (inherit o h)) (agg_table d (side true f) (half true old) (inherit o h))

-- a hop of the set is an answer of the region
pub set_values : (d : ℕ) (f : List Bool → ℕ) (h : ℕ) → is_in h (set_of d f) ≡ true → (a : List Bool) × (length a ≡ d) × (f a ≡ h)
unfolding set_of
set_values zero f h e = ([], refl, in_single (f []) h e)
set_values (suc d) f h e = elim (in_joint (set_of d (side false f)) (set_of d (side true f)) h e) [
  | inl l ↦ let v : (a : List Bool) × (length a ≡ d) × (f (false ∷ a) ≡ h) = set_values d (side false f) h l in (false ∷ v.0, ap suc v.1, v.2)
  | inr r ↦ let v : (a : List Bool) × (length a ≡ d) × (f (true ∷ a) ≡ h) = set_values d (side true f) h r in (true ∷ v.0, ap suc v.1, v.2)
]

one_hop : (h : ℕ) → joint (h ∷ []) (h ∷ []) ≡ h ∷ []
one_hop h = ap (λ (b : Bool). or_else (cond b (h ∷ []) []) (h ∷ h ∷ [])) (in_first h h [] refl)

not_apart : (h : ℕ) → apart (h ∷ []) (h ∷ []) ≡ 0
not_apart h = ap (λ (b : Bool). one_if_empty (cond b (h ∷ []) [])) (in_first h h [] refl)

-- where all answers are one, the set is that answer
pub set_uniform : (d : ℕ) (f : List Bool → ℕ) (h : ℕ) → ((a : List Bool) → length a ≡ d → f a ≡ h) → set_of d f ≡ h ∷ []
unfolding set_of
set_uniform zero f h e = ap (λ x. x ∷ []) (e [] refl)
set_uniform (suc d) f h e =
    ap (λ x. joint x (set_of d (side true f))) (set_uniform d (side false f) h (λ a l. e (false ∷ a) (ap suc l)))
    ∙ (ap (λ x. joint (h ∷ []) x) (set_uniform d (side true f) h (λ a l. e (true ∷ a) (ap suc l))) ∙ one_hop h)

-- and its k is 0
pub k_uniform : (d : ℕ) (f : List Bool → ℕ) (h : ℕ) → ((a : List Bool) → length a ≡ d → f a ≡ h) → k_of d f ≡ 0
unfolding k_of
k_uniform zero f h e = refl
k_uniform (suc d) f h e =
    let low : (a : List Bool) → length a ≡ d → f (false ∷ a) ≡ h = λ a l. e (false ∷ a) (ap suc l) in
    let high : (a : List Bool) → length a ≡ d → f (true ∷ a) ≡ h = λ a l. e (true ∷ a) (ap suc l) in
    let gap : apart (set_of d (side false f)) (set_of d (side true f)) ≡ 0 = ap (λ x. apart x (set_of d (side true f))) (set_uniform d (side false f) h low) ∙ (ap (λ x. apart (h ∷ []) x) (set_uniform d (side true f) h high) ∙ not_apart h) in
    omega (arith, k_uniform d (side false f) h low, k_uniform d (side true f) h high)

-- answers alike give one set, one k and one aggregate
pub set_alike : (d : ℕ) (f g : List Bool → ℕ) → ((a : List Bool) → length a ≡ d → f a ≡ g a) → set_of d f ≡ set_of d g
unfolding set_of
set_alike zero f g e = ap (λ x. x ∷ []) (e [] refl)
set_alike (suc d) f g e =
    ap (λ x. joint x (set_of d (side true f))) (set_alike d (side false f) (side false g) (λ a l. e (false ∷ a) (ap suc l)))
    ∙ ap (λ x. joint (set_of d (side false g)) x) (set_alike d (side true f) (side true g) (λ a l. e (true ∷ a) (ap suc l)))

pub k_alike : (d : ℕ) (f g : List Bool → ℕ) → ((a : List Bool) → length a ≡ d → f a ≡ g a) → k_of d f ≡ k_of d g
unfolding k_of
k_alike zero f g e = refl
k_alike (suc d) f g e =
    let low : (a : List Bool) → length a ≡ d → f (false ∷ a) ≡ g (false ∷ a) = λ a l. e (false ∷ a) (ap suc l) in
    let high : (a : List Bool) → length a ≡ d → f (true ∷ a) ≡ g (true ∷ a) = λ a l. e (true ∷ a) (ap suc l) in
    let gap : apart (set_of d (side false f)) (set_of d (side true f)) ≡ apart (set_of d (side false g)) (set_of d (side true g)) = ap (λ x. apart x (set_of d (side true f))) (set_alike d (side false f) (side false g) low) ∙ ap (apart (set_of d (side false g))) (set_alike d (side true f) (side true g) high) in
    omega (arith, k_alike d (side false f) (side false g) low, k_alike d (side true f) (side true g) high)

-- one more bit
pub set_more : (d : ℕ) (f : List Bool → ℕ) → set_of (suc d) f ≡ joint (set_of d (side false f)) (set_of d (side true f))
unfolding set_of
set_more d f = refl

pub k_more : (d : ℕ) (f : List Bool → ℕ) → k_of (suc d) f ≡ k_of d (side false f) + k_of d (side true f) + apart (set_of d (side false f)) (set_of d (side true f))
unfolding k_of
k_more d f = refl

pub agg_root : (d : ℕ) (f : List Bool → ℕ) (old : Table) (h : ℕ) → root (agg d f old h) ≡ own (set_of d f) (root old) h
unfolding agg
agg_root zero f old h = root_join (own (set_of zero f) (root old) h) [] []
agg_root (suc d) f old h = root_join (own (set_of (suc d) f) (root old) h) _ _

-- an entry of the aggregate stands exactly where the set lacks the inherited hop
pub agg_entry : (q : List Bool) (d : ℕ) (f : List Bool → ℕ) (old : Table) (h : ℕ) → length q ≤ d → root (cut q (agg d f old h)) ≡ own (set_of (d - length q) (λ a. f (q ++ a))) (root (cut q old)) (above q (agg d f old h) h)
unfolding agg
agg_entry [] d f old h l =
    let z : d - 0 ≡ d = omega arith in
    agg_root d f old h ∙ (ap (λ x. own (set_of x f) (root old) h) (sym z) ∙ ap (λ x. own (set_of (d - 0) f) (root old) (hop_or h (longest x))) (sym (none_above (agg d f old h))))
agg_entry (b ∷ q) zero f old h l = absurd (omega arith)
agg_entry (false ∷ q) (suc d) f old h l =
    let o = own (set_of (suc d) f) (root old) h in
    let L = agg d (side false f) (half false old) (inherit o h) in
    let M = agg d (side true f) (half true old) (inherit o h) in
    let z : d - length q ≡ suc d - suc (length q) = omega arith in
    ap (λ x. root (cut q x)) (low_join o L M)
    ∙ (agg_entry q d (side false f) (half false old) (inherit o h) (omega arith)
    ∙ (ap (λ x. own (set_of x (λ a. f (false ∷ (q ++ a)))) (root (cut q (half false old))) (above q L (inherit o h))) z
    ∙ ap (own (set_of (suc d - suc (length q)) (λ a. f (false ∷ (q ++ a)))) (root (cut q (half false old))))
    (ap (λ x. above q L (inherit x h)) (sym (root_join o L M)) ∙ (ap (λ x. above q x (inherit (root (join o L M)) h)) (sym (low_join o L M)) ∙ sym (above_cut false q (join o L M) h)))))
agg_entry (true ∷ q) (suc d) f old h l =
    let o = own (set_of (suc d) f) (root old) h in
    let L = agg d (side false f) (half false old) (inherit o h) in
    let M = agg d (side true f) (half true old) (inherit o h) in
    let z : d - length q ≡ suc d - suc (length q) = omega arith in
    ap (λ x. root (cut q x)) (high_join o L M)
    ∙ (agg_entry q d (side true f) (half true old) (inherit o h) (omega arith)
    ∙ (ap (λ x. own (set_of x (λ a. f (true ∷ (q ++ a)))) (root (cut q (half true old))) (above q M (inherit o h))) z
    ∙ ap (own (set_of (suc d - suc (length q)) (λ a. f (true ∷ (q ++ a)))) (root (cut q (half true old))))
    (ap (λ x. above q M (inherit x h)) (sym (root_join o L M)) ∙ (ap (λ x. above q x (inherit (root (join o L M)) h)) (sym (high_join o L M)) ∙ sym (above_cut true q (join o L M) h)))))
