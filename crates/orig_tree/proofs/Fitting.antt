-- How long the prefixes at a node are, and what a cover says of its addresses.
use Rattle.std.proofs.Common.{◌≡◌, ℕ, zero, suc, List, [], ◌∷◌, ◌++◌, length, Bool, true, false, refl, sym, ap, ◌∙◌, subst, arith, Option, Some, None}
use Rattle.table_model.specs.Table.{Table, lpm, here}
use Rattle.table_model.specs.Regions.{lift, join}
use Rattle.orig_tree.specs.Views.{FitsWidth}
use Rattle.orig_tree.specs.Walk.{Walks, no_walks}
use Rattle.orig_tree.specs.Arena.{cell_at, half_place, from_half, walks_at}
use Rattle.orig_tree.specs.Cover.{ShowsHop, Within, IsCover}
use Rattle.orig_tree.specs.declared.cover.Cover.{Cover}
use Rattle.orig_tree.specs.declared.node.Node.{Node}

fits_both : (n : ℕ) (a b : Table) → FitsWidth n a → FitsWidth n b → FitsWidth n (a ++ b)
fits_both n [] b f g = g
fits_both n (e ∷ a) b f g = (f.0, fits_both n a b f.1 g)

fits_lifted : (b : Bool) (n : ℕ) (L : Table) → FitsWidth n L → FitsWidth (suc n) (lift (b ∷ []) L)
fits_lifted b n [] f = tt
fits_lifted b n (e ∷ es) f = (omega (arith, f.0), fits_lifted b n es f.1)

fits_here : (n : ℕ) (o : Option ℕ) → FitsWidth n (here o)
fits_here n None = tt
fits_here n (Some g) = (omega arith, tt)

fits_join : (n : ℕ) (o : Option ℕ) (L M : Table) → FitsWidth n L → FitsWidth n M → FitsWidth (suc n) (join o L M)
fits_join n o L M f g = fits_both (suc n) (here o) _ (fits_here (suc n) o) (fits_both (suc n) (lift (false ∷ []) L) (lift (true ∷ []) M) (fits_lifted false n L f) (fits_lifted true n M g))

no_half : (cells : List Node) (o : Option ℕ) → from_half (walks_at zero cells) o ≡ no_walks
unfolding walks_at
no_half cells None = refl
no_half cells (Some j) = refl

half_fits : (d : ℕ) (cells : List Node) → ((j : ℕ) → FitsWidth d (walks_at (suc d) cells j).routes) → (o : Option ℕ) → FitsWidth d (from_half (walks_at (suc d) cells) o).routes
half_fits d cells f None = tt
half_fits d cells f (Some j) = f j

-- no route below a node is longer than the levels there
pub walk_fits : (d : ℕ) (cells : List Node) (i : ℕ) → FitsWidth d (walks_at (suc d) cells i).routes
unfolding walks_at
walk_fits zero cells i =
    let n = cell_at cells i in
    let bare : (o : Option ℕ) → (from_half (walks_at zero cells) o).routes ≡ [] = λ o. ap (λ (w : Walks). w.routes) (no_half cells o) in
    subst (λ (L : Table). FitsWidth 0 (join n.route.hop L (from_half (walks_at zero cells) (half_place n true)).routes)) (sym (bare (half_place n false)))
    (subst (λ (L : Table). FitsWidth 0 (join n.route.hop [] L)) (sym (bare (half_place n true))) (fits_both 0 (here n.route.hop) [] (fits_here 0 n.route.hop) tt))
walk_fits (suc d) cells i =
    let n = cell_at cells i in
    fits_join d n.route.hop (from_half (walks_at (suc d) cells) (half_place n false)).routes (from_half (walks_at (suc d) cells) (half_place n true)).routes
    (half_fits d cells (λ j. walk_fits d cells j) (half_place n false)) (half_fits d cells (λ j. walk_fits d cells j) (half_place n true))

-- where routes cover all addresses, what is inherited doesn't matter
pub covered_gets : (L : Table) (c : Cover) (n : ℕ) → IsCover L c → FitsWidth n L → c.passes ≡ false → (h k : ℕ) (a : List Bool) → length a ≡ n → lpm L a h ≡ lpm L a k
covered_gets L c n i f e h k a l = let x = i.each n f a l in by_shown x.0 x.1 x.2
  where
    by_shown : (x : Option ℕ) → ShowsHop L a x → Within c x → lpm L a h ≡ lpm L a k
    by_shown None s w = let z : true ≡ false = sym w ∙ e in cc
    by_shown (Some g) s w = s h ∙ sym (s k)
