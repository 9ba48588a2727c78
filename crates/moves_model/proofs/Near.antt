-- The least number of changes of a region of d more bits with the answers f and the old entries T.
use Rattle.std.proofs.Common.{◌≡◌, ℕ, zero, suc, ◌+◌, ◌≤◌, List, [], ◌∷◌, Bool, true, false, cond, Option, length, refl, sym, ap, ◌∙◌, arith, inl, inr}
use Rattle.table_model.specs.Table.{Table, lpm, IsTable, Alike, Distinct, root, half, inherit}
use Rattle.table_model.proofs.Cut.{lpm_cut, lpm_nil}
use Rattle.table_model.specs.Regions.{join}
use Rattle.table_model.specs.Sets.{side, answers}
use Rattle.table_model.proofs.Join.{root_join, low_join, high_join, lpm_join_low, lpm_join_high, table_here, table_join}
use Rattle.table_model.proofs.Sets.{in_single, miss_single}
use Rattle.table_model.proofs.Patch.{table_half, no_half}
use Rattle.moves_model.specs.Dist.{distance}
use Rattle.moves_model.specs.Sets.{Allowed, these, is_allowed, allowed_by_both, gap, new_entry, inner_set, inner_k, near_set, near_k, near_of}
use Rattle.moves_model.specs.Nearest.{Nearest, nearest, near_bound}
use Rattle.moves_model.proofs.Counts.{tally, dist_parts, dist_cut, differ_or_same}
use Rattle.moves_model.proofs.Allowed.{lacks, lacks_most, both_without, both_with, both_of, has_hop, both_hop, over_hop, over_cost, holds_new, new_tally}

-- ---- no fewer changes

lower_zero : (f : List Bool → ℕ) (T U : Table) (h : ℕ) → lpm U [] h ≡ f [] → 0 + lacks (inherit (root T) h) (these (f [] ∷ [])) ≤ distance T U
lower_zero f T U h e = elim (differ_or_same (root T) (root U)) [
  | inl x ↦ omega (arith, dist_parts T U, x, lacks_most (inherit (root T) h) (these (f [] ∷ [])))
  | inr x ↦ let i : inherit (root T) h ≡ f [] = ap (λ o. inherit o h) x ∙ (sym (lpm_nil U h) ∙ e) in omega (arith, miss_single (f []), ap (λ g. lacks g (these (f [] ∷ []))) i)
]

lower_step : (o u : Option ℕ) (h k l : ℕ) (S T : Allowed) (m n all : ℕ)
    → k + lacks (inherit u h) S ≤ m → l + lacks (inherit u h) T ≤ n → tally o u + m + n ≤ all
    → k + l + gap S T + lacks (inherit o h) (allowed_by_both S T) ≤ all
lower_step o u h k l S T m n all a b c = elim (differ_or_same o u) [
  | inl x ↦ omega (arith, both_with S T (inherit u h) (inherit o h), x)
  | inr x ↦ let i : lacks (inherit o h) (allowed_by_both S T) ≡ lacks (inherit u h) (allowed_by_both S T) = ap (λ y. lacks (inherit y h) (allowed_by_both S T)) x in omega (arith, both_without S T (inherit u h), i)
]

-- every list of entries with these answers differs at so many prefixes
pub lower : (d : ℕ) (f : List Bool → ℕ) (T U : Table) (h : ℕ) → ((a : List Bool) → length a ≡ d → lpm U a h ≡ f a) → inner_k d f T + lacks (inherit (root T) h) (inner_set d f T) ≤ distance T U
unfolding inner_k inner_set
lower zero f T U h e = lower_zero f T U h (e [] refl)
lower (suc d) f T U h e =
    let g = inherit (root U) h in
    let low = half false T in
    let high = half true T in
    lower_step (root T) (root U) h (near_k d (side false f) low) (near_k d (side true f) high) (near_set d (side false f) low) (near_set d (side true f) high)
    (distance low (half false U)) (distance high (half true U)) (distance T U)
    (omega (
      arith,
      over_cost (root low) (inner_set d (side false f) low) (inner_k d (side false f) low) g,
      lower d (side false f) low (half false U) g (λ a l. sym (lpm_cut U false a h) ∙ e (false ∷ a) (ap suc l)),
    ))
    (omega (
      arith,
      over_cost (root high) (inner_set d (side true f) high) (inner_k d (side true f) high) g,
      lower d (side true f) high (half true U) g (λ a l. sym (lpm_cut U true a h) ∙ e (true ∷ a) (ap suc l)),
    ))
    (dist_parts T U)

-- ---- and so many suffice

pub set_hop : (d : ℕ) (f : List Bool → ℕ) (T : Table) → has_hop (inner_set d f T) ≡ true
unfolding inner_set
set_hop zero f T = refl
set_hop (suc d) f T =
    both_hop (near_set d (side false f) (half false T)) (near_set d (side true f) (half true T)) (over_hop (root (half false T)) _ (set_hop d (side false f) (half false T)))
    (over_hop (root (half true T)) _ (set_hop d (side true f) (half true T)))

pub near_answers : (d : ℕ) (f : List Bool → ℕ) (T : Table) (h : ℕ) (a : List Bool) → length a ≡ d → lpm (near_of d f T h) a h ≡ f a
unfolding near_of inner_set
near_answers zero f T h [] e =
    let o = new_entry (these (f [] ∷ [])) (root T) h in
    lpm_nil (join o [] []) h ∙ (ap (λ x. inherit x h) (root_join o [] []) ∙ sym (in_single (f []) (inherit o h) (holds_new (these (f [] ∷ [])) (root T) h refl)))
near_answers zero f T h (b ∷ a) e = absurd (omega arith)
near_answers (suc d) f T h [] e = absurd (omega arith)
near_answers (suc d) f T h (false ∷ a) e =
    let o = new_entry (inner_set (suc d) f T) (root T) h in
    lpm_join_low o (near_of d (side false f) (half false T) (inherit o h)) (near_of d (side true f) (half true T) (inherit o h)) a h
    ∙ near_answers d (side false f) (half false T) (inherit o h) a (omega arith)
near_answers (suc d) f T h (true ∷ a) e =
    let o = new_entry (inner_set (suc d) f T) (root T) h in
    lpm_join_high o (near_of d (side false f) (half false T) (inherit o h)) (near_of d (side true f) (half true T) (inherit o h)) a h
    ∙ near_answers d (side true f) (half true T) (inherit o h) a (omega arith)

pub near_table : (d : ℕ) (f : List Bool → ℕ) (T : Table) (h : ℕ) → IsTable d (near_of d f T h)
unfolding near_of
near_table zero f T h = table_here (new_entry (inner_set zero f T) (root T) h) 0
near_table (suc d) f T h =
    let o = new_entry (inner_set (suc d) f T) (root T) h in
    table_join o d (near_of d (side false f) (half false T) (inherit o h)) (near_of d (side true f) (half true T) (inherit o h))
    (near_table d (side false f) (half false T) (inherit o h)) (near_table d (side true f) (half true T) (inherit o h))

-- the distance of a table from one that is put together
dist_join : (T : Table) (o : Option ℕ) (L M : Table) → Distinct T → Distinct (join o L M) → distance T (join o L M) ≡ tally (root T) o + distance (half false T) L + distance (half true T) M
dist_join T o L M d c =
    dist_cut T (join o L M) d c
    ∙ (ap (λ x. tally (root T) x + distance (half false T) (half false (join o L M)) + distance (half true T) (half true (join o L M))) (root_join o L M)
    ∙ (ap (λ x. tally (root T) o + distance (half false T) x + distance (half true T) (half true (join o L M))) (low_join o L M) ∙ ap (λ x. tally (root T) o + distance (half false T) L + distance (half true T) x) (high_join o L M)))

none_from : (L : Table) → L ≡ [] → distance L [] ≡ 0
none_from L e = ap (λ x. distance x []) e

pub near_dist : (d : ℕ) (f : List Bool → ℕ) (T : Table) (h : ℕ) → IsTable d T → distance T (near_of d f T h) ≡ inner_k d f T + lacks (inherit (root T) h) (inner_set d f T)
unfolding near_of inner_set inner_k
near_dist zero f T h t =
    let o = new_entry (these (f [] ∷ [])) (root T) h in
    omega (arith, dist_join T o [] [] t.0 (table_here o 0).0, none_from (half false T) (no_half false T t.1), none_from (half true T) (no_half true T t.1), new_tally (these (f [] ∷ [])) (root T) h refl)
near_dist (suc d) f T h t =
    let low = half false T in
    let high = half true T in
    let S = near_set d (side false f) low in
    let Q = near_set d (side true f) high in
    let o = new_entry (allowed_by_both S Q) (root T) h in
    let g = inherit o h in
    let L = near_of d (side false f) low g in
    let M = near_of d (side true f) high g in
    let full : has_hop (allowed_by_both S Q) ≡ true = both_hop S Q (over_hop (root low) _ (set_hop d (side false f) low)) (over_hop (root high) _ (set_hop d (side true f) high)) in
    omega (
      arith,
      dist_join T o L M t.0 (table_join o d L M (near_table d (side false f) low g) (near_table d (side true f) high g)).0,
      new_tally (allowed_by_both S Q) (root T) h full,
      both_of S Q g (holds_new (allowed_by_both S Q) (root T) h full),
      near_dist d (side false f) low g (table_half false d T t),
      near_dist d (side true f) high g (table_half true d T t),
      over_cost (root low) (inner_set d (side false f) low) (inner_k d (side false f) low) g,
      over_cost (root high) (inner_set d (side true f) high) (inner_k d (side true f) high) g,
    )

-- ---- the whole space

choose : (b : Bool) (k : ℕ) → k + cond b 0 1 ≡ cond b k (k + 1)
choose true k = omega arith
choose false k = refl

bound_is : (w : ℕ) (R T : Table) → near_bound w R T ≡ inner_k w (answers R []) T + lacks (inherit (root T) 0) (inner_set w (answers R []) T)
bound_is w R T =
    sym (choose (is_allowed 0 (near_set w (answers R []) T)) (near_k w (answers R []) T)) ∙ over_cost (root T) (inner_set w (answers R []) T) (inner_k w (answers R []) T) 0

pub bound_law : (w : ℕ) (R T U : Table) → Alike w R U → near_bound w R T ≤ distance T U
bound_law w R T U e = omega (arith, bound_is w R T, lower w (answers R []) T U 0 (λ a l. sym (e a l)))

pub near_law : (w : ℕ) (R T : Table) → IsTable w T → IsTable w (nearest w R T) × Nearest w R T (nearest w R T) × (distance T (nearest w R T) ≡ near_bound w R T)
near_law w R T t =
    let n : distance T (nearest w R T) ≡ near_bound w R T = near_dist w (answers R []) T 0 t ∙ sym (bound_is w R T) in (
      near_table w (answers R []) T 0,
      (λ a l. sym (near_answers w (answers R []) T 0 a l), λ V v e. omega (arith, bound_law w R T V e)),
      n,
    )
