-- What is kept of regions on the way up.
use Rattle.std.proofs.Common.{◌≡◌, ℕ, zero, suc, ◌+◌, List, [], ◌∷◌, Bool, true, false, cond, length, Option, Some, None, refl, sym, ap, subst, ◌∙◌, arith}
use Rattle.std.specs.Prelude.{Box, is_some, not, ◌&&◌}
use Rattle.std.specs.Box.{box_value}
use Rattle.std.specs.declared.alloc.Global.{Global}
use Rattle.table_model.specs.Table.{Table, IsTable, root, half, inherit}
use Rattle.table_model.proofs.Cut.{entry}
use Rattle.table_model.specs.Sets.{is_in, smallest, side, set_of, k_of}
use Rattle.table_model.proofs.Patch.{table_half, no_half}
use Rattle.fib_addr.specs.HopSets.{SameHops}
use Rattle.orig_tree.specs.Spots.{Spot, spot_answers}
use Rattle.orig_tree.specs.Walk.{Walks, behind}
use Rattle.ortc.proofs.Alike.{half_answers}
use Rattle.moves_model.specs.Sets.{Allowed, these, is_allowed, allowed_by_both, gap, least_allowed, set_over, k_over, inner_set, inner_k, near_set, near_k}
use Rattle.moves_model.proofs.Near.{set_hop}
use Rattle.moves_model.specs.Demands.{is_bare, has_no_entries}
use Rattle.moves_model.proofs.Regions.{inner_bare, bare_half, inner_alike, inner_more}
use Rattle.fib_moves.specs.declared.needs.RegionNeeds.{RegionNeeds}
use Rattle.fib_moves.specs.declared.needs.RegionNeeds.TheViews.{out-RegionNeeds}
use Rattle.fib_moves.specs.declared.place.Place.{Place}
use Rattle.fib_moves.specs.Needs.{Knows, AreFound, IsJoined, IsNodeOf}
use Rattle.fib_moves.specs.declared.allowed.AllowedHops.{AllowedHops}
use Rattle.fib_moves.specs.Views.{SameAllowed, allowed_as}
use Rattle.fib_moves.proofs.Same.{same_allowed, same_both, same_least, same_then}

-- ---- what is known

module _ (d : ℕ) (f : List Bool → ℕ) (T : Table) (s : Option (Box RegionNeeds Global)) (x : Knows d f T s) where
  pub known_bare : s ≡ None → is_bare T ≡ true
  known_bare e = subst (Knows d f T) e x

  pub known_set : (b : Box RegionNeeds Global) → s ≡ Some b → SameAllowed (allowed_as (out-RegionNeeds (box_value b)).hops) (inner_set d f T)
  known_set b e = by_depth d (subst (Knows d f T) e x)
    where
      by_depth : (d : ℕ) → Knows d f T (Some b) → SameAllowed (allowed_as (out-RegionNeeds (box_value b)).hops) (inner_set d f T)
      by_depth zero x = absurd x
      by_depth (suc d) x = x.1

  pub none_k : s ≡ None → k_of d f ≡ inner_k d f T
  none_k e = sym (inner_bare d f T (known_bare e)).1

module _ (d : ℕ) (f : List Bool → ℕ) (T : Table) (o : Option AllowedHops) (x : AreFound d f T o) where
  pub found_bare : o ≡ None → is_bare T ≡ true
  found_bare e = subst (AreFound d f T) e x

  pub found_set : (w : AllowedHops) → o ≡ Some w → SameAllowed (allowed_as w) (inner_set d f T)
  found_set w e = subst (AreFound d f T) e x

  pub none_holds : (h : ℕ) → o ≡ None → is_in h (set_of d f) ≡ is_allowed h (inner_set d f T)
  none_holds h e = sym (ap (is_allowed h) (inner_bare d f T (found_bare e)).0)

  pub none_least : o ≡ None → smallest (set_of d f) ≡ least_allowed (inner_set d f T)
  none_least e = sym (ap least_allowed (inner_bare d f T (found_bare e)).0)

  pub none_set : (S : List ℕ) → o ≡ None → SameHops S (set_of d f) → SameAllowed (these S) (inner_set d f T)
  none_set S e h = subst (SameAllowed (these S)) (sym (inner_bare d f T (found_bare e)).0) h

  pub some_holds : (w : AllowedHops) (h : ℕ) → o ≡ Some w → is_allowed h (allowed_as w) ≡ is_allowed h (inner_set d f T)
  some_holds w h e = same_allowed (allowed_as w) (inner_set d f T) h (found_set w e)

  pub some_least : (w : AllowedHops) → o ≡ Some w → least_allowed (allowed_as w) ≡ least_allowed (inner_set d f T)
  some_least w e = same_least (allowed_as w) (inner_set d f T) (found_set w e) (set_hop d f T)

-- ---- where there is no old entry

pub nothing : (L : Table) → root L ≡ None → half false L ≡ [] → half true L ≡ [] → L ≡ []
nothing [] r a b = refl
nothing (e ∷ L) r a b = one e.prefix e.hop r a b
  where
    one : (p : List Bool) (g : ℕ) → root (entry p g ∷ L) ≡ None → half false (entry p g ∷ L) ≡ [] → half true (entry p g ∷ L) ≡ [] → entry p g ∷ L ≡ []
    one [] g r a b = cc
    one (false ∷ p) g r a b = cc
    one (true ∷ p) g r a b = cc

pub no_some : {X : Type 0} (o : Option X) (b : Bool) → is_some o ≡ not b → b ≡ true → o ≡ None
no_some None b e t = refl
no_some (Some x) b e t = let z : true ≡ false = e ∙ ap not t in cc

pub no_entries : (d : ℕ) (f : List Bool → ℕ) (T : Table) (s : Option (Box RegionNeeds Global)) (o : Option ℕ) (b c : Bool) → Knows d f T s → is_some s ≡ not b → b ≡ true → o ≡ root T → is_some o ≡ not c → c ≡ true → T ≡ []
no_entries d f T s o b c x n t r m u =
    let k = known_bare d f T s x (no_some s b n t) in
    nothing T (sym r ∙ no_some o c m u) (bare_half false T k) (bare_half true T k)

some_is : {X : Type 0} (o : Option X) (b : Bool) → is_some o ≡ not b → b ≡ false → o ≡ None → ⊥
some_is None b e t z = let y : false ≡ true = e ∙ ap not t in cc
some_is (Some x) b e t z = cc

-- and where there is one
pub has_entries : (d : ℕ) (f : List Bool → ℕ) (T : Table) (s : Option (Box RegionNeeds Global)) (b : Bool) → Knows d f T s → is_some s ≡ not b → b ≡ false → T ≡ [] → ⊥
has_entries d f T s b x n t e = by_split s x (some_is s b n t)
  where
    bare_nil : is_bare T ≡ true
    bare_nil = ap is_bare e

    by_depth : (d : ℕ) (f : List Bool → ℕ) (y : Box RegionNeeds Global) → Knows d f T (Some y) → ⊥
    by_depth zero f y x = x
    by_depth (suc d) f y x = let z : true ≡ false = sym bare_nil ∙ x.0 in absurd cc

    by_split : (s : Option (Box RegionNeeds Global)) → Knows d f T s → (s ≡ None → ⊥) → ⊥
    by_split None x n = n refl
    by_split (Some y) x n = by_depth d f y x

pub has_root : (T : Table) (o : Option ℕ) (c : Bool) → o ≡ root T → is_some o ≡ not c → c ≡ false → T ≡ [] → ⊥
has_root T o c r m u e = some_is o c m u (r ∙ ap root e)

pub no_node : (n : Option Walks) (T : Table) (b : Bool) → (behind n).entries ≡ T → is_some n ≡ not b → b ≡ true → is_bare T ≡ true
no_node n T b e s t = ap is_bare (sym e ∙ ap (λ w. (behind w).entries) (no_some n b s t))

-- ---- answers alike

pub knows_alike : (d : ℕ) (f g : List Bool → ℕ) (T : Table) (s : Option (Box RegionNeeds Global)) → ((a : List Bool) → length a ≡ d → f a ≡ g a) → Knows d f T s → Knows d g T s
knows_alike d f g T None e x = x
knows_alike zero f g T (Some b) e x = absurd x
knows_alike (suc d) f g T (Some b) e x =
    let a = inner_alike (suc d) f g T e in (
      x.0,
      subst (SameAllowed (allowed_as (out-RegionNeeds (box_value b)).hops)) a.0 x.1,
      x.2 ∙ a.1,
      knows_alike d (side false f) (side false g) (half false T) (out-RegionNeeds (box_value b)).low (λ y l. e (false ∷ y) (ap suc l)) x.3,
      knows_alike d (side true f) (side true g) (half true T) (out-RegionNeeds (box_value b)).high (λ y l. e (true ∷ y) (ap suc l)) x.4,
    )

-- a half's region, told from the whole one
module _ (s t : Spot) (b : Bool) (n : suc t.bits ≡ s.bits) (r : t.routes ≡ half b s.routes) (l : t.entries ≡ half b s.entries) (h : t.hop ≡ inherit (root s.routes) s.hop) where
  pub knows_half : (x : Option (Box RegionNeeds Global)) → Knows t.bits (spot_answers t) t.entries x → Knows t.bits (side b (spot_answers s)) (half b s.entries) x
  knows_half x k = subst (λ (L : Table). Knows t.bits (side b (spot_answers s)) L x) l (knows_alike t.bits (spot_answers t) (side b (spot_answers s)) t.entries x (λ a m. half_answers s t b r h a) k)

  pub knows_back : (x : Option (Box RegionNeeds Global)) → Knows t.bits (side b (spot_answers s)) (half b s.entries) x → Knows t.bits (spot_answers t) t.entries x
  knows_back x k = knows_alike t.bits (side b (spot_answers s)) (spot_answers t) t.entries x (λ a m. sym (half_answers s t b r h a)) (subst (λ (L : Table). Knows t.bits (side b (spot_answers s)) L x) (sym l) k)

  pub near_half : (near_set t.bits (spot_answers t) t.entries ≡ near_set t.bits (side b (spot_answers s)) (half b s.entries)) × (near_k t.bits (spot_answers t) t.entries ≡ near_k t.bits (side b (spot_answers s)) (half b s.entries))
  near_half =
      let a = inner_alike t.bits (spot_answers t) (side b (spot_answers s)) t.entries (λ y m. half_answers s t b r h y) in (
        ap (set_over (root t.entries)) a.0 ∙ ap (λ L. near_set t.bits (side b (spot_answers s)) L) l,
        ap (λ S. k_over (root t.entries) S (inner_k t.bits (spot_answers t) t.entries)) a.0 ∙ (ap (k_over (root t.entries) (inner_set t.bits (side b (spot_answers s)) t.entries)) a.1 ∙ ap (λ L. near_k t.bits (side b (spot_answers s)) L) l),
      )

-- ---- a region from its halves

pub bare_from : (T : Table) → half false T ≡ [] → half true T ≡ [] → is_bare T ≡ true
bare_from T e f = both_empty (half false T) (half true T) e f
  where
    both_empty : (A B : Table) → A ≡ [] → B ≡ [] → (has_no_entries A && has_no_entries B) ≡ true
    both_empty [] [] e f = refl
    both_empty (x ∷ A) B e f = cc
    both_empty [] (x ∷ B) e f = cc

not_bare : (T : Table) → (half false T ≡ [] → half true T ≡ [] → ⊥) → is_bare T ≡ false
not_bare T n = by_test (is_bare T) refl
  where
    by_test : (b : Bool) → is_bare T ≡ b → is_bare T ≡ false
    by_test true e = absurd (n (bare_half false T e) (bare_half true T e))
    by_test false e = e

module _ (s low high : Spot) (ln : suc low.bits ≡ s.bits) (lr : low.routes ≡ half false s.routes) (le : low.entries ≡ half false s.entries) (lh : low.hop ≡ inherit (root s.routes) s.hop)
    (hn : suc high.bits ≡ s.bits) (hr : high.routes ≡ half true s.routes) (he : high.entries ≡ half true s.entries) (hh : high.hop ≡ inherit (root s.routes) s.hop) where
  same_bits : high.bits ≡ low.bits
  same_bits = omega (arith, ln, hn)

  pub knows_join : (x : Option (Box RegionNeeds Global)) → IsJoined low high x → Knows s.bits (spot_answers s) s.entries x
  knows_join None j = bare_from s.entries (sym le ∙ j.0) (sym he ∙ j.1)
  knows_join (Some b) j =
      let d = low.bits in
      let f = spot_answers s in
      let T = s.entries in
      let u = near_half s low false ln lr le lh in
      let v = near_half s high true hn hr he hh in
      let m = inner_more d f T in
      let hs : near_set high.bits (spot_answers high) high.entries ≡ near_set d (side true f) (half true T) = v.0 ∙ ap (λ n. near_set n (side true f) (half true T)) same_bits in
      let hk : near_k high.bits (spot_answers high) high.entries ≡ near_k d (side true f) (half true T) = v.1 ∙ ap (λ n. near_k n (side true f) (half true T)) same_bits in
      let set : allowed_by_both (near_set low.bits (spot_answers low) low.entries) (near_set high.bits (spot_answers high) high.entries) ≡ inner_set (suc d) f T =
      ap (λ x. allowed_by_both x (near_set high.bits (spot_answers high) high.entries)) u.0 ∙ (ap (allowed_by_both (near_set d (side false f) (half false T))) hs ∙ sym m.0) in
      let gaps : gap (near_set low.bits (spot_answers low) low.entries) (near_set high.bits (spot_answers high) high.entries) ≡ gap (near_set d (side false f) (half false T)) (near_set d (side true f) (half true T)) =
      ap (λ x. gap x (near_set high.bits (spot_answers high) high.entries)) u.0 ∙ ap (gap (near_set d (side false f) (half false T))) hs in
      let k : (out-RegionNeeds (box_value b)).k ≡ inner_k (suc d) f T = omega (arith, j.2, u.1, hk, gaps, m.1) in
      let whole : Knows (suc d) f T (Some b) = (
        not_bare T (λ x y. j.0 (le ∙ x) (he ∙ y)),
        subst (SameAllowed (allowed_as (out-RegionNeeds (box_value b)).hops)) set j.1,
        k,
        knows_half s low false ln lr le lh (out-RegionNeeds (box_value b)).low j.3,
        subst (λ (n : ℕ). Knows n (side true f) (half true T) (out-RegionNeeds (box_value b)).high) same_bits (knows_half s high true hn hr he hh (out-RegionNeeds (box_value b)).high j.4),
      ) in
      subst (λ (n : ℕ). Knows n f T (Some b)) ln whole

-- ---- ends

pub knows_last : (n : ℕ) (f : List Bool → ℕ) (T : Table) → IsTable n T → n ≡ 0 → Knows n f T None
knows_last n f T t e = let u : IsTable zero T = subst (λ (m : ℕ). IsTable m T) e t in bare_from T (no_half false T u.1) (no_half true T u.1)

pub knows_nothing : (n : ℕ) (f : List Bool → ℕ) (T : Table) → T ≡ [] → Knows n f T None
knows_nothing n f T e = ap is_bare e

pub place_half : (p q : Place) (b : Bool) → IsNodeOf p → suc q.region.bits ≡ p.region.bits → q.region.entries ≡ half b p.region.entries → (behind q.node).entries ≡ half b (behind p.node).entries → IsNodeOf q
place_half p q b x n e m = record {
  node = m ∙ (ap (half b) x.node ∙ sym e);
  table = subst (λ (L : Table). IsTable q.region.bits L) (sym e) (table_half b q.region.bits p.region.entries (subst (λ (d : ℕ). IsTable d p.region.entries) (sym n) x.table));
}

-- ---- put together

pub joined_some : (low high : Spot) (b : Box RegionNeeds Global) (first second w : Allowed) (k m n : ℕ) (apart : Bool) (l h : Option (Box RegionNeeds Global))
    → SameAllowed first (near_set low.bits (spot_answers low) low.entries) → SameAllowed second (near_set high.bits (spot_answers high) high.entries)
    → SameAllowed w (allowed_by_both first second) → cond apart 1 0 ≡ gap first second
    → m ≡ near_k low.bits (spot_answers low) low.entries → n ≡ near_k high.bits (spot_answers high) high.entries
    → k ≡ cond apart (m + n + 1) (m + n)
    → Knows low.bits (spot_answers low) low.entries l → Knows high.bits (spot_answers high) high.entries h
    → (low.entries ≡ [] → high.entries ≡ [] → ⊥) → allowed_as (out-RegionNeeds (box_value b)).hops ≡ w → (out-RegionNeeds (box_value b)).k ≡ k → (out-RegionNeeds (box_value b)).low ≡ l → (out-RegionNeeds (box_value b)).high ≡ h
    → IsJoined low high (Some b)
joined_some low high b first second w k m n apart l h e f x g i j c p q some bw bk bl bh =
    let z = same_both first second (near_set low.bits (spot_answers low) low.entries) (near_set high.bits (spot_answers high) high.entries) e f in
    let more : (t : Bool) → cond t (m + n + 1) (m + n) ≡ m + n + cond t 1 0 = one_more m n in (
      some,
      subst (λ y. SameAllowed y (allowed_by_both (near_set low.bits (spot_answers low) low.entries) (near_set high.bits (spot_answers high) high.entries))) (sym bw) (same_then w (allowed_by_both first second) _ x z.0),
      omega (arith, bk, c, more apart, g, z.1, i, j),
      subst (Knows low.bits (spot_answers low) low.entries) (sym bl) p,
      subst (Knows high.bits (spot_answers high) high.entries) (sym bh) q,
    )
  where
    one_more : (m n : ℕ) (t : Bool) → cond t (m + n + 1) (m + n) ≡ m + n + cond t 1 0
    one_more m n true = omega arith
    one_more m n false = omega arith
