-- The cover of a region, from those of its halves.
use Rattle.std.proofs.Common.{◌≡◌, ℕ, zero, suc, List, [], ◌∷◌, ◌++◌, length, Bool, true, false, ◌||◌, cond, nat_eq, refl, sym, ap, ◌∙◌, subst, arith, Option, Some, None, replicate}
use Rattle.std.proofs.lemmas.List.{length-replicate}
use Rattle.std.proofs.lemmas.Bool.{eqb-true, eqb-false}
use Rattle.table_model.specs.Table.{Table, here}
use Rattle.table_model.specs.Regions.{lift, join}
use Rattle.table_model.proofs.Join.{lpm_join_low, lpm_join_high}
use Rattle.orig_tree.specs.Views.{FitsWidth}
use Rattle.orig_tree.specs.Cover.{ShowsHop, Allows, Within, SomeGets, ReachedBy, IsCover, both, stopped, covered}
use Rattle.orig_tree.specs.declared.cover.Cover.{Cover}
use Rattle.orig_tree.specs.declared.cover.Hops.{Hops}
use Rattle.orig_tree.specs.declared.cover.Hops.TheVariants.{Zero, One, Many}
use Rattle.orig_tree.proofs.Steps.{lpm_join_end}

pub bare_cover : (c : Cover) → c.passes ≡ true → c.hops ≡ Zero → IsCover [] c
bare_cover c p h = record {
  each = λ n f a l. (None, (λ g. refl), p);
  passed = λ n f t. (replicate n true, length-replicate n true, λ g. refl);
  reached = λ n f. subst (λ (x : Hops). ReachedBy (λ g. SomeGets n [] (Some g)) x) (sym h) tt;
}

-- what fits
fits_front : (n : ℕ) (a b : Table) → FitsWidth n (a ++ b) → FitsWidth n a
fits_front n [] b f = tt
fits_front n (e ∷ a) b f = (f.0, fits_front n a b f.1)

fits_back : (n : ℕ) (a b : Table) → FitsWidth n (a ++ b) → FitsWidth n b
fits_back n [] b f = f
fits_back n (e ∷ a) b f = fits_back n a b f.1

fits_down : (b : Bool) (n : ℕ) (rows : Table) → FitsWidth (suc n) (lift (b ∷ []) rows) → FitsWidth n rows
fits_down b n [] f = tt
fits_down b n (e ∷ es) f = (omega (arith, f.0), fits_down b n es f.1)

fits_none : (b : Bool) (rows : Table) → FitsWidth 0 (lift (b ∷ []) rows) → rows ≡ []
fits_none b [] f = refl
fits_none b (e ∷ es) f = absurd (omega (arith, f.0))

pub fits_low : (n : ℕ) (label : Option ℕ) (low high : Table) → FitsWidth (suc n) (join label low high) → FitsWidth n low
fits_low n label low high f = fits_down false n low (fits_front (suc n) (lift (false ∷ []) low) (lift (true ∷ []) high) (fits_back (suc n) (here label) _ f))

pub fits_high : (n : ℕ) (label : Option ℕ) (low high : Table) → FitsWidth (suc n) (join label low high) → FitsWidth n high
fits_high n label low high f = fits_down true n high (fits_back (suc n) (lift (false ∷ []) low) (lift (true ∷ []) high) (fits_back (suc n) (here label) _ f))

no_low : (label : Option ℕ) (low high : Table) → FitsWidth 0 (join label low high) → low ≡ []
no_low label low high f = fits_none false low (fits_front 0 (lift (false ∷ []) low) (lift (true ∷ []) high) (fits_back 0 (here label) _ f))

no_high : (label : Option ℕ) (low high : Table) → FitsWidth 0 (join label low high) → high ≡ []
no_high label low high f = fits_none true high (fits_back 0 (lift (false ∷ []) low) (lift (true ∷ []) high) (fits_back 0 (here label) _ f))

-- what a region with no rows must have as its cover
not_shown : (a : List Bool) (g : ℕ) → ShowsHop [] a (Some g) → ⊥
not_shown a g s = let e : 0 ≡ g = s 0 in let f : 1 ≡ g = s 1 in omega arith

bare_passes_by : (c : Cover) (x : Option ℕ) → ShowsHop [] [] x → Within c x → c.passes ≡ true
bare_passes_by c None s w = w
bare_passes_by c (Some g) s w = absurd (not_shown [] g s)

bare_passes : (c : Cover) → IsCover [] c → c.passes ≡ true
bare_passes c k = let t = k.each 0 tt [] refl in bare_passes_by c t.0 t.1 t.2

bare_hops_by : (hops : Hops) → ReachedBy (λ g. SomeGets 0 [] (Some g)) hops → hops ≡ Zero
bare_hops_by Zero r = refl
bare_hops_by (One x) r = absurd (not_shown r.0 x r.2)
bare_hops_by Many r = absurd (not_shown r.3.0 r.0 r.3.2)

bare_hops : (c : Cover) → IsCover [] c → c.hops ≡ Zero
bare_hops c k = bare_hops_by c.hops (k.reached 0 tt)

-- what is shown below a label
abbrev after : Option ℕ → Option ℕ → Option ℕ
after None x = x
after (Some g) None = Some g
after (Some g) (Some k) = Some k

shows_low : (label : Option ℕ) (low high : Table) (a : List Bool) (x : Option ℕ) → ShowsHop low a x → ShowsHop (join label low high) (false ∷ a) (after label x)
shows_low None low high a None s = λ h. lpm_join_low None low high a h ∙ s h
shows_low None low high a (Some k) s = λ h. lpm_join_low None low high a h ∙ s h
shows_low (Some g) low high a None s = λ h. lpm_join_low (Some g) low high a h ∙ s g
shows_low (Some g) low high a (Some k) s = λ h. lpm_join_low (Some g) low high a h ∙ s g

shows_high : (label : Option ℕ) (low high : Table) (a : List Bool) (x : Option ℕ) → ShowsHop high a x → ShowsHop (join label low high) (true ∷ a) (after label x)
shows_high None low high a None s = λ h. lpm_join_high None low high a h ∙ s h
shows_high None low high a (Some k) s = λ h. lpm_join_high None low high a h ∙ s h
shows_high (Some g) low high a None s = λ h. lpm_join_high (Some g) low high a h ∙ s g
shows_high (Some g) low high a (Some k) s = λ h. lpm_join_high (Some g) low high a h ∙ s g

shows_end : (label : Option ℕ) (low high : Table) → ShowsHop (join label low high) [] (after label None)
shows_end None low high = λ h. lpm_join_end None low high h
shows_end (Some g) low high = λ h. lpm_join_end (Some g) low high h

-- hops of two regions
both_left : (a b : Hops) (g : ℕ) → Allows a g → Allows (both a b) g
both_left Zero b g w = absurd w
both_left (One x) Zero g w = w
both_left (One x) (One y) g w = elim (nat_eq x y) as (λ t. Allows (cond t (One x) Many) g) [ true ↦ w | false ↦ tt ]
both_left (One x) Many g w = tt
both_left Many b g w = tt

both_right : (a b : Hops) (g : ℕ) → Allows b g → Allows (both a b) g
both_right Zero b g w = w
both_right (One x) Zero g w = absurd w
both_right (One x) (One y) g w =
    let P : Bool → Type 0 = λ t. nat_eq x y ≡ t → Allows (cond t (One x) Many) g in
    (elim (nat_eq x y) as P [ true ↦ λ e. w ∙ sym (eqb-true x y e) | false ↦ λ e. tt ]) refl
both_right (One x) Many g w = tt
both_right Many b g w = tt

within_joined_left : (cl ch : Cover) (x : Option ℕ) → Within cl x → Within (covered None cl ch) x
within_joined_left cl ch None w = ap (λ t. t || ch.passes) w
within_joined_left cl ch (Some g) w = both_left cl.hops ch.hops g w

or_true : (t : Bool) → (t || true) ≡ true
or_true true = refl
or_true false = refl

within_joined_right : (cl ch : Cover) (x : Option ℕ) → Within ch x → Within (covered None cl ch) x
within_joined_right cl ch None w = ap (λ t. cl.passes || t) w ∙ or_true cl.passes
within_joined_right cl ch (Some g) w = both_right cl.hops ch.hops g w

stopped_own : (g : ℕ) (passes : Bool) (hops : Hops) → passes ≡ true → Allows (stopped g passes hops) g
stopped_own g true hops e = both_right hops (One g) g refl
stopped_own g false hops e = cc

stopped_old : (g : ℕ) (passes : Bool) (hops : Hops) (k : ℕ) → Allows hops k → Allows (stopped g passes hops) k
stopped_old g true hops k w = both_left hops (One g) k w
stopped_old g false hops k w = w

within_label : (label : Option ℕ) (cl ch : Cover) (x : Option ℕ) → Within (covered None cl ch) x → Within (covered label cl ch) (after label x)
within_label None cl ch None w = w
within_label None cl ch (Some k) w = w
within_label (Some g) cl ch None w = stopped_own g (cl.passes || ch.passes) (both cl.hops ch.hops) w
within_label (Some g) cl ch (Some k) w = stopped_old g (cl.passes || ch.passes) (both cl.hops ch.hops) k w

-- what is reached
reach_low : (n : ℕ) (label : Option ℕ) (low high : Table) (x : Option ℕ) → SomeGets n low x → SomeGets (suc n) (join label low high) (after label x)
reach_low n label low high x r = (false ∷ r.0, ap suc r.1, shows_low label low high r.0 x r.2)

reach_high : (n : ℕ) (label : Option ℕ) (low high : Table) (x : Option ℕ) → SomeGets n high x → SomeGets (suc n) (join label low high) (after label x)
reach_high n label low high x r = (true ∷ r.0, ap suc r.1, shows_high label low high r.0 x r.2)

after_some : (label : Option ℕ) (k : ℕ) → after label (Some k) ≡ Some k
after_some None k = refl
after_some (Some g) k = refl

reach_low_hop : (n : ℕ) (label : Option ℕ) (low high : Table) (k : ℕ) → SomeGets n low (Some k) → SomeGets (suc n) (join label low high) (Some k)
reach_low_hop n label low high k r = subst (λ (x : Option ℕ). SomeGets (suc n) (join label low high) x) (after_some label k) (reach_low n label low high (Some k) r)

reach_high_hop : (n : ℕ) (label : Option ℕ) (low high : Table) (k : ℕ) → SomeGets n high (Some k) → SomeGets (suc n) (join label low high) (Some k)
reach_high_hop n label low high k r = subst (λ (x : Option ℕ). SomeGets (suc n) (join label low high) x) (after_some label k) (reach_high n label low high (Some k) r)

module _ (r s : ℕ → Type 0) (f : (g : ℕ) → r g → s g) where
  reached_map : (hops : Hops) → ReachedBy r hops → ReachedBy s hops
  reached_map Zero w = tt
  reached_map (One x) w = f x w
  reached_map Many w = (w.0, w.1, w.2, f w.0 w.3, f w.1 w.4)

module _ (r : ℕ → Type 0) where
  reached_both : (a b : Hops) → ReachedBy r a → ReachedBy r b → ReachedBy r (both a b)
  reached_both Zero b v w = w
  reached_both (One x) Zero v w = v
  reached_both (One x) (One y) v w =
      let P : Bool → Type 0 = λ t. nat_eq x y ≡ t → ReachedBy r (cond t (One x) Many) in
      (elim (nat_eq x y) as P [ true ↦ λ e. v | false ↦ λ e. (x, y, eqb-false x y e, v, w) ]) refl
  reached_both (One x) Many v w = w
  reached_both Many b v w = v

  reached_stopped : (g : ℕ) (passes : Bool) (hops : Hops) → (passes ≡ true → r g) → ReachedBy r hops → ReachedBy r (stopped g passes hops)
  reached_stopped g true hops o w = reached_both hops (One g) w (o refl)
  reached_stopped g false hops o w = w

reach_passed : (n : ℕ) (label : Option ℕ) (low high : Table) (cl ch : Cover) → IsCover low cl → IsCover high ch → FitsWidth n low → FitsWidth n high → (cl.passes || ch.passes) ≡ true → SomeGets (suc n) (join label low high) (after label None)
reach_passed n label low high cl ch l h fl fh e =
    let P : Bool → Type 0 = λ t. cl.passes ≡ t → SomeGets (suc n) (join label low high) (after label None) in
    (elim cl.passes as P [
      | true ↦ λ t. reach_low n label low high None (l.passed n fl t)
      | false ↦ λ t. reach_high n label low high None (h.passed n fh (sym (ap (λ u. u || ch.passes) t) ∙ e))
    ]) refl

level_each : (label : Option ℕ) (low high : Table) (cl ch : Cover) → IsCover low cl → IsCover high ch → (n : ℕ) → FitsWidth n (join label low high) → (a : List Bool) → length a ≡ n → (x : Option ℕ) × ShowsHop (join label low high) a x × Within (covered label cl ch) x
level_each label low high cl ch l h zero f [] e =
    let p = bare_passes cl (subst (λ (r : Table). IsCover r cl) (no_low label low high f) l) in
    (after label None, shows_end label low high, within_label label cl ch None (within_joined_left cl ch None p))
level_each label low high cl ch l h zero f (b ∷ a) e = absurd (omega arith)
level_each label low high cl ch l h (suc n) f [] e = absurd (omega arith)
level_each label low high cl ch l h (suc n) f (false ∷ a) e =
    let t = l.each n (fits_low n label low high f) a (omega arith) in
    (after label t.0, shows_low label low high a t.0 t.1, within_label label cl ch t.0 (within_joined_left cl ch t.0 t.2))
level_each label low high cl ch l h (suc n) f (true ∷ a) e =
    let t = h.each n (fits_high n label low high f) a (omega arith) in
    (after label t.0, shows_high label low high a t.0 t.1, within_label label cl ch t.0 (within_joined_right cl ch t.0 t.2))

level_passed : (label : Option ℕ) (low high : Table) (cl ch : Cover) → IsCover low cl → IsCover high ch → (n : ℕ) → FitsWidth n (join label low high) → (covered label cl ch).passes ≡ true → SomeGets n (join label low high) None
level_passed None low high cl ch l h zero f e = ([], refl, shows_end None low high)
level_passed None low high cl ch l h (suc n) f e = reach_passed n None low high cl ch l h (fits_low n None low high f) (fits_high n None low high f) e
level_passed (Some g) low high cl ch l h n f e = cc

reached_level : (label : Option ℕ) (low high : Table) (cl ch : Cover) → IsCover low cl → IsCover high ch → (n : ℕ) → FitsWidth (suc n) (join label low high) → ReachedBy (λ g. SomeGets (suc n) (join label low high) (Some g)) (both cl.hops ch.hops)
reached_level label low high cl ch l h n f =
    reached_both (λ g. SomeGets (suc n) (join label low high) (Some g)) cl.hops ch.hops
    (reached_map (λ g. SomeGets n low (Some g)) (λ g. SomeGets (suc n) (join label low high) (Some g)) (reach_low_hop n label low high) cl.hops (l.reached n (fits_low n label low high f)))
    (reached_map (λ g. SomeGets n high (Some g)) (λ g. SomeGets (suc n) (join label low high) (Some g)) (reach_high_hop n label low high) ch.hops (h.reached n (fits_high n label low high f)))

bare_both : (label : Option ℕ) (low high : Table) (cl ch : Cover) → IsCover low cl → IsCover high ch → FitsWidth 0 (join label low high) → both cl.hops ch.hops ≡ Zero
bare_both label low high cl ch l h f =
    ap (λ x. both x ch.hops) (bare_hops cl (subst (λ (r : Table). IsCover r cl) (no_low label low high f) l))
    ∙ bare_hops ch (subst (λ (r : Table). IsCover r ch) (no_high label low high f) h)

level_reached : (label : Option ℕ) (low high : Table) (cl ch : Cover) → IsCover low cl → IsCover high ch → (n : ℕ) → FitsWidth n (join label low high) → ReachedBy (λ g. SomeGets n (join label low high) (Some g)) (covered label cl ch).hops
level_reached None low high cl ch l h zero f = subst (λ (x : Hops). ReachedBy (λ g. SomeGets 0 (join None low high) (Some g)) x) (sym (bare_both None low high cl ch l h f)) tt
level_reached (Some k) low high cl ch l h zero f =
    reached_stopped (λ g. SomeGets 0 (join (Some k) low high) (Some g)) k (cl.passes || ch.passes) (both cl.hops ch.hops) (λ e. ([], refl, shows_end (Some k) low high))
    (subst (λ (x : Hops). ReachedBy (λ g. SomeGets 0 (join (Some k) low high) (Some g)) x) (sym (bare_both (Some k) low high cl ch l h f)) tt)
level_reached None low high cl ch l h (suc n) f = reached_level None low high cl ch l h n f
level_reached (Some k) low high cl ch l h (suc n) f =
    reached_stopped (λ g. SomeGets (suc n) (join (Some k) low high) (Some g)) k (cl.passes || ch.passes) (both cl.hops ch.hops)
    (reach_passed n (Some k) low high cl ch l h (fits_low n (Some k) low high f) (fits_high n (Some k) low high f))
    (reached_level (Some k) low high cl ch l h n f)

pub cover_level : (label : Option ℕ) (low high : Table) (cl ch : Cover) → IsCover low cl → IsCover high ch → IsCover (join label low high) (covered label cl ch)
cover_level label low high cl ch l h = record {
  each = level_each label low high cl ch l h;
  passed = level_passed label low high cl ch l h;
  reached = level_reached label low high cl ch l h;
}
