-- Sets and k of regions: of a leaf, and of a join from its halves.
use Rattle.std.proofs.Common.{◌≡◌, ℕ, zero, suc, ◌+◌, ◌-◌, ◌<◌, ◌≤◌, List, [], ◌∷◌, ◌++◌, Bool, true, false, length, refl, sym, ap, ◌∙◌, arith, length-append, append_assoc}
use Rattle.std.proofs.lemmas.Bool.{and_parts}
use Rattle.table_model.specs.Table.{Table, lpm, root, half, cut}
use Rattle.table_model.specs.Sets.{apart, side, set_of, k_of, answers}
use Rattle.table_model.proofs.Cost.{set_uniform, k_uniform}
use Rattle.table_model.proofs.Patch.{cut_cut}
use Rattle.moves_model.specs.Sets.{Allowed, these, allowed_by_both, gap, set_over, k_over, inner_set, inner_k, near_set, near_k}
use Rattle.moves_model.specs.Demands.{has_no_entries, is_bare}

-- ---- where there is no old entry

pub inner_none : (d : ℕ) (f : List Bool → ℕ) → (inner_set d f [] ≡ these (set_of d f)) × (inner_k d f [] ≡ k_of d f)
unfolding inner_set inner_k set_of k_of
inner_none zero f = (refl, refl)
inner_none (suc d) f =
    let l = inner_none d (side false f) in
    let h = inner_none d (side true f) in (
      ap (λ x. allowed_by_both x (inner_set d (side true f) [])) l.0 ∙ ap (λ x. allowed_by_both (these (set_of d (side false f))) x) h.0,
      (let g : gap (inner_set d (side false f) []) (inner_set d (side true f) []) ≡ apart (set_of d (side false f)) (set_of d (side true f)) = ap (λ x. gap x (inner_set d (side true f) [])) l.0 ∙ ap (λ x. gap (these (set_of d (side false f))) x) h.0 in
          omega (arith, l.1, h.1, g)),
    )

empty_is : (L : Table) → has_no_entries L ≡ true → L ≡ []
empty_is [] e = refl
empty_is (x ∷ L) e = cc

pub bare_half : (b : Bool) (T : Table) → is_bare T ≡ true → half b T ≡ []
bare_half true T e = empty_is (half true T) (and_parts (has_no_entries (half false T)) (has_no_entries (half true T)) e).1
bare_half false T e = empty_is (half false T) (and_parts (has_no_entries (half false T)) (has_no_entries (half true T)) e).0

-- no old entry strictly within: the sets of the routes alone
pub inner_bare : (d : ℕ) (f : List Bool → ℕ) (T : Table) → is_bare T ≡ true → (inner_set d f T ≡ these (set_of d f)) × (inner_k d f T ≡ k_of d f)
unfolding inner_set inner_k set_of k_of
inner_bare zero f T e = (refl, refl)
inner_bare (suc d) f T e =
    let x = inner_none (suc d) f in (
      ap (λ y. allowed_by_both (near_set d (side false f) y) (near_set d (side true f) (half true T))) (bare_half false T e) ∙ (ap (λ y. allowed_by_both (near_set d (side false f) []) (near_set d (side true f) y)) (bare_half true T e) ∙ x.0),
      ap (λ y. near_k d (side false f) y + near_k d (side true f) (half true T) + gap (near_set d (side false f) y) (near_set d (side true f) (half true T))) (bare_half false T e)
          ∙ (ap (λ y. near_k d (side false f) [] + near_k d (side true f) y + gap (near_set d (side false f) []) (near_set d (side true f) y)) (bare_half true T e) ∙ x.1),
    )

-- a leaf's set is its answer, and its k is 0
pub inner_leaf : (d : ℕ) (f : List Bool → ℕ) (T : Table) (h : ℕ) → is_bare T ≡ true → ((a : List Bool) → length a ≡ d → f a ≡ h) → (inner_set d f T ≡ these (h ∷ [])) × (inner_k d f T ≡ 0)
inner_leaf d f T h e u =
    let x = inner_bare d f T e in
    (x.0 ∙ ap these (set_uniform d f h u), x.1 ∙ k_uniform d f h u)

-- answers alike
pub inner_alike : (d : ℕ) (f g : List Bool → ℕ) (T : Table) → ((a : List Bool) → length a ≡ d → f a ≡ g a) → (inner_set d f T ≡ inner_set d g T) × (inner_k d f T ≡ inner_k d g T)
unfolding inner_set inner_k
inner_alike zero f g T e = (ap (λ x. these (x ∷ [])) (e [] refl), refl)
inner_alike (suc d) f g T e =
    let low = half false T in
    let high = half true T in
    let l = inner_alike d (side false f) (side false g) low (λ a n. e (false ∷ a) (ap suc n)) in
    let h = inner_alike d (side true f) (side true g) high (λ a n. e (true ∷ a) (ap suc n)) in
    let ls : near_set d (side false f) low ≡ near_set d (side false g) low = ap (set_over (root low)) l.0 in
    let hs : near_set d (side true f) high ≡ near_set d (side true g) high = ap (set_over (root high)) h.0 in
    let lk : near_k d (side false f) low ≡ near_k d (side false g) low = ap (λ x. k_over (root low) x (inner_k d (side false f) low)) l.0 ∙ ap (k_over (root low) (inner_set d (side false g) low)) l.1 in
    let hk : near_k d (side true f) high ≡ near_k d (side true g) high = ap (λ x. k_over (root high) x (inner_k d (side true f) high)) h.0 ∙ ap (k_over (root high) (inner_set d (side true g) high)) h.1 in
    let gs : gap (near_set d (side false f) low) (near_set d (side true f) high) ≡ gap (near_set d (side false g) low) (near_set d (side true g) high) = ap (λ x. gap x (near_set d (side true f) high)) ls ∙ ap (gap (near_set d (side false g) low)) hs in (
      ap (λ x. allowed_by_both x (near_set d (side true f) high)) ls ∙ ap (allowed_by_both (near_set d (side false g) low)) hs,
      omega (arith, lk, hk, gs),
    )

-- ---- regions of a prefix

-- of the region p of addresses of w bits
abbrev pub set_at : ℕ → Table → Table → List Bool → Allowed
set_at w R T p = inner_set (w - length p) (answers R p) (cut p T)

abbrev pub k_at : ℕ → Table → Table → List Bool → ℕ
k_at w R T p = inner_k (w - length p) (answers R p) (cut p T)

cut_one : (p : List Bool) (b : Bool) (T : Table) → cut (p ++ (b ∷ [])) T ≡ half b (cut p T)
cut_one p b T = cut_cut p (b ∷ []) T

pub inner_more : (d : ℕ) (f : List Bool → ℕ) (T : Table) → (inner_set (suc d) f T ≡ allowed_by_both (near_set d (side false f) (half false T)) (near_set d (side true f) (half true T)))
    × (inner_k (suc d) f T ≡ near_k d (side false f) (half false T) + near_k d (side true f) (half true T) + gap (near_set d (side false f) (half false T)) (near_set d (side true f) (half true T)))
unfolding inner_set inner_k
inner_more d f T = (refl, refl)

half_region : (w : ℕ) (R T : Table) (p : List Bool) (b : Bool) (d : ℕ) → d ≡ w - length (p ++ (b ∷ []))
    → (inner_set d (side b (answers R p)) (half b (cut p T)) ≡ set_at w R T (p ++ (b ∷ []))) × (inner_k d (side b (answers R p)) (half b (cut p T)) ≡ k_at w R T (p ++ (b ∷ [])))
half_region w R T p b d e =
    let q = p ++ (b ∷ []) in
    let x = inner_alike d (side b (answers R p)) (answers R q) (half b (cut p T)) (λ a n. ap (λ y. lpm R y 0) (sym (append_assoc p (b ∷ []) a))) in (
      x.0 ∙ (ap (λ y. inner_set y (answers R q) (half b (cut p T))) e ∙ ap (inner_set (w - length q) (answers R q)) (sym (cut_one p b T))),
      x.1 ∙ (ap (λ y. inner_k y (answers R q) (half b (cut p T))) e ∙ ap (inner_k (w - length q) (answers R q)) (sym (cut_one p b T))),
    )

-- the region's set and k with its own old entry counted
abbrev pub set_with : ℕ → Table → Table → List Bool → Allowed
set_with w R T p = set_over (root (cut p T)) (set_at w R T p)

abbrev pub k_with : ℕ → Table → Table → List Bool → ℕ
k_with w R T p = k_over (root (cut p T)) (set_at w R T p) (k_at w R T p)

half_with : (w : ℕ) (R T : Table) (p : List Bool) (b : Bool) (d : ℕ) → d ≡ w - length (p ++ (b ∷ []))
    → (near_set d (side b (answers R p)) (half b (cut p T)) ≡ set_with w R T (p ++ (b ∷ []))) × (near_k d (side b (answers R p)) (half b (cut p T)) ≡ k_with w R T (p ++ (b ∷ [])))
half_with w R T p b d e =
    let q = p ++ (b ∷ []) in
    let x = half_region w R T p b d e in
    let o = root (half b (cut p T)) in
    let r : o ≡ root (cut q T) = ap root (sym (cut_one p b T)) in (
      ap (set_over o) x.0 ∙ ap (λ y. set_over y (set_at w R T q)) r,
      ap (λ y. k_over o y (inner_k d (side b (answers R p)) (half b (cut p T)))) x.0 ∙ (ap (k_over o (set_at w R T q)) x.1 ∙ ap (λ y. k_over y (set_at w R T q) (k_at w R T q)) r),
    )

pub join_at : (w : ℕ) (R T : Table) (p : List Bool) → length p < w
    → (set_at w R T p ≡ allowed_by_both (set_with w R T (p ++ (false ∷ []))) (set_with w R T (p ++ (true ∷ []))))
    × (k_at w R T p ≡ k_with w R T (p ++ (false ∷ [])) + k_with w R T (p ++ (true ∷ [])) + gap (set_with w R T (p ++ (false ∷ []))) (set_with w R T (p ++ (true ∷ []))))
join_at w R T p s =
    let d = w - suc (length p) in
    let e : w - length p ≡ suc d = omega arith in
    let low : d ≡ w - length (p ++ (false ∷ [])) = omega (arith, length-append p (false ∷ [])) in
    let high : d ≡ w - length (p ++ (true ∷ [])) = omega (arith, length-append p (true ∷ [])) in
    let l = half_with w R T p false d low in
    let h = half_with w R T p true d high in
    let m = inner_more d (answers R p) (cut p T) in
    let g : gap (near_set d (side false (answers R p)) (half false (cut p T))) (near_set d (side true (answers R p)) (half true (cut p T))) ≡ gap (set_with w R T (p ++ (false ∷ []))) (set_with w R T (p ++ (true ∷ []))) =
    ap (λ x. gap x (near_set d (side true (answers R p)) (half true (cut p T)))) l.0 ∙ ap (gap (set_with w R T (p ++ (false ∷ [])))) h.0 in (
      ap (λ x. inner_set x (answers R p) (cut p T)) e ∙ (m.0 ∙ (ap (λ x. allowed_by_both x (near_set d (side true (answers R p)) (half true (cut p T)))) l.0 ∙ ap (allowed_by_both (set_with w R T (p ++ (false ∷ [])))) h.0)),
      ap (λ x. inner_k x (answers R p) (cut p T)) e ∙ (m.1 ∙ omega (arith, l.1, h.1, g)),
    )

pub leaf_at : (w : ℕ) (R T : Table) (p : List Bool) (h : ℕ) → length p ≤ w → is_bare (cut p T) ≡ true → ((a : List Bool) → length (p ++ a) ≡ w → lpm R (p ++ a) 0 ≡ h) → (set_at w R T p ≡ these (h ∷ [])) × (k_at w R T p ≡ 0)
leaf_at w R T p h s e u = inner_leaf (w - length p) (answers R p) (cut p T) h e (λ a l. u a (let n : length (p ++ a) ≡ w = omega (arith, length-append p a) in n))
