-- What is found of regions on the way up.
use Rattle.std.proofs.Common.{◌≡◌, ℕ, zero, suc, List, [], ◌∷◌, Bool, true, false, not, length, Option, Some, None, is_some, sym, ap, subst, ◌∙◌, arith}
use Rattle.std.specs.Prelude.{Box}
use Rattle.std.specs.Box.{box_value}
use Rattle.std.specs.declared.alloc.Global.{Global}
use Rattle.table_model.specs.Table.{Table, root, half, inherit}
use Rattle.table_model.specs.Sets.{side}
use Rattle.orig_tree.specs.Spots.{spot_answers}
use Rattle.orig_tree.specs.Walk.{behind}
use Rattle.ortc.proofs.Alike.{half_answers}
use Rattle.moves_model.specs.Sets.{Allowed, allowed_by_both, inner_set, near_set}
use Rattle.moves_model.specs.Demands.{is_bare}
use Rattle.moves_model.proofs.Regions.{bare_half, inner_alike, inner_more}
use Rattle.fib_moves.specs.Views.{SameAllowed, allowed_as}
use Rattle.fib_moves.specs.declared.allowed.AllowedHops.{AllowedHops}
use Rattle.fib_moves.proofs.Same.{same_both, same_then}
use Rattle.fib_moves.specs.declared.place.Place.{Place}
use Rattle.fib_moves.proofs.Parts.{near_half, bare_from, nothing, no_some}
use Rattle.fib_moves.specs.declared.found.RegionHops.{RegionHops}
use Rattle.fib_moves.specs.declared.found.RegionHops.TheViews.{out-RegionHops}
use Rattle.fib_moves.specs.Found.{FoundHops, FoundInHalf, JoinsHops, IsHopsBox, half_found}

-- ---- what is found

module _ (d : ℕ) (f : List Bool → ℕ) (R T : Table) (s : Option (Box RegionHops Global)) (x : FoundHops d f R T s) where
  pub hops_bare : s ≡ None → is_bare T ≡ true
  hops_bare e = subst (FoundHops d f R T) e x

  pub hops_set : (b : Box RegionHops Global) → s ≡ Some b → SameAllowed (allowed_as (out-RegionHops (box_value b)).hops) (inner_set d f T)
  hops_set b e = by_depth d (subst (FoundHops d f R T) e x)
    where
      by_depth : (d : ℕ) → FoundHops d f R T (Some b) → SameAllowed (allowed_as (out-RegionHops (box_value b)).hops) (inner_set d f T)
      by_depth zero x = absurd x
      by_depth (suc d) x = x.0

  pub hops_none : (o : Option ℕ) (b c : Bool) → is_some s ≡ not b → b ≡ true → o ≡ root T → is_some o ≡ not c → c ≡ true → T ≡ []
  hops_none o b c n t r m u =
      let k = hops_bare (no_some s b n t) in
      nothing T (sym r ∙ no_some o c m u) (bare_half false T k) (bare_half true T k)

-- of a settled half nothing need be
pub settled_none : (p : Place) (b : Bool) → b ≡ is_some (root (behind p.node).routes) → b ≡ true → FoundInHalf p None
settled_none p b e t n = let z : true ≡ false = sym t ∙ (e ∙ n) in absurd cc

-- ---- answers alike

pub hops_alike : (d : ℕ) (f g : List Bool → ℕ) (R T : Table) (s : Option (Box RegionHops Global)) → ((a : List Bool) → length a ≡ d → f a ≡ g a) → FoundHops d f R T s → FoundHops d g R T s
hops_alike d f g R T None e x = x
hops_alike zero f g R T (Some b) e x = absurd x
hops_alike (suc d) f g R T (Some b) e x = (
  subst (SameAllowed (allowed_as (out-RegionHops (box_value b)).hops)) (inner_alike (suc d) f g T e).0 x.0,
  λ n. hops_alike d (side false f) (side false g) (half false R) (half false T) (out-RegionHops (box_value b)).low (λ y l. e (false ∷ y) (ap suc l)) (x.1 n),
  λ n. hops_alike d (side true f) (side true g) (half true R) (half true T) (out-RegionHops (box_value b)).high (λ y l. e (true ∷ y) (ap suc l)) (x.2 n),
)

-- a half's place, told from the whole one
module _ (p q : Place) (b : Bool) (n : suc q.region.bits ≡ p.region.bits) (r : q.region.routes ≡ half b p.region.routes) (l : q.region.entries ≡ half b p.region.entries) (h : q.region.hop ≡ inherit (root p.region.routes) p.region.hop)
    (m : (behind q.node).routes ≡ half b (behind p.node).routes) where
  hops_half : (x : Option (Box RegionHops Global)) → FoundInHalf q x → is_some (root (half b (behind p.node).routes)) ≡ false → FoundHops q.region.bits (side b (spot_answers p.region)) (half b (behind p.node).routes) (half b p.region.entries) x
  hops_half x k e =
      hops_alike q.region.bits (spot_answers q.region) (side b (spot_answers p.region)) (half b (behind p.node).routes) (half b p.region.entries) x (λ a u. half_answers p.region q.region b r h a)
      (subst (λ (L : Table). FoundHops q.region.bits (spot_answers q.region) (half b (behind p.node).routes) L x) l
      (subst (λ (L : Table). FoundHops q.region.bits (spot_answers q.region) L q.region.entries x) m (k (ap (λ L. is_some (root L)) m ∙ e))))

  hops_back : (x : Option (Box RegionHops Global)) → (is_some (root (half b (behind p.node).routes)) ≡ false → FoundHops q.region.bits (side b (spot_answers p.region)) (half b (behind p.node).routes) (half b p.region.entries) x) → FoundInHalf q x
  hops_back x k e =
      subst (λ (L : Table). FoundHops q.region.bits (spot_answers q.region) L q.region.entries x) (sym m)
      (subst (λ (L : Table). FoundHops q.region.bits (spot_answers q.region) (half b (behind p.node).routes) L x) (sym l)
      (hops_alike q.region.bits (side b (spot_answers p.region)) (spot_answers q.region) (half b (behind p.node).routes) (half b p.region.entries) x (λ a u. sym (half_answers p.region q.region b r h a)) (k (ap (λ L. is_some (root L)) (sym m) ∙ e))))

  pub hops_down : (x y z : Option (Box RegionHops Global)) → FoundHops p.region.bits (spot_answers p.region) (behind p.node).routes p.region.entries x → y ≡ None → z ≡ half_found b x y → FoundInHalf q z
  hops_down x y z k e i =
      hops_back z (λ w. subst (FoundHops q.region.bits (side b (spot_answers p.region)) (half b (behind p.node).routes) (half b p.region.entries)) (sym i)
      (hops_side q.region.bits (spot_answers p.region) (behind p.node).routes p.region.entries b x y (subst (λ (d : ℕ). FoundHops d (spot_answers p.region) (behind p.node).routes p.region.entries x) (sym n) k) e w))
    where
      hops_side : (d : ℕ) (f : List Bool → ℕ) (R T : Table) (b : Bool) (s bare : Option (Box RegionHops Global)) → FoundHops (suc d) f R T s → bare ≡ None → is_some (root (half b R)) ≡ false → FoundHops d (side b f) (half b R) (half b T) (half_found b s bare)
      hops_side d f R T b None bare x e w = subst (FoundHops d (side b f) (half b R) (half b T)) (sym e) (ap is_bare (bare_half b T x))
      hops_side d f R T true (Some s) bare x e w = x.2 w
      hops_side d f R T false (Some s) bare x e w = x.1 w

-- ---- a region from its halves

module _ (p low high : Place) (ln : suc low.region.bits ≡ p.region.bits) (lr : low.region.routes ≡ half false p.region.routes) (le : low.region.entries ≡ half false p.region.entries) (lh : low.region.hop ≡ inherit (root p.region.routes) p.region.hop) (lm : (behind low.node).routes ≡ half false (behind p.node).routes)
    (hn : suc high.region.bits ≡ p.region.bits) (hr : high.region.routes ≡ half true p.region.routes) (he : high.region.entries ≡ half true p.region.entries) (hh : high.region.hop ≡ inherit (root p.region.routes) p.region.hop) (hm : (behind high.node).routes ≡ half true (behind p.node).routes) where
  same_bits : high.region.bits ≡ low.region.bits
  same_bits = omega (arith, ln, hn)

  pub hops_join : (x : Option (Box RegionHops Global)) → JoinsHops low high x → FoundHops p.region.bits (spot_answers p.region) (behind p.node).routes p.region.entries x
  hops_join None j = bare_from p.region.entries (sym le ∙ j.0) (sym he ∙ j.1)
  hops_join (Some b) j =
      let d = low.region.bits in
      let f = spot_answers p.region in
      let R = (behind p.node).routes in
      let T = p.region.entries in
      let u = near_half p.region low.region false ln lr le lh in
      let v = near_half p.region high.region true hn hr he hh in
      let hs : near_set high.region.bits (spot_answers high.region) high.region.entries ≡ near_set d (side true f) (half true T) = v.0 ∙ ap (λ n. near_set n (side true f) (half true T)) same_bits in
      let set : allowed_by_both (near_set low.region.bits (spot_answers low.region) low.region.entries) (near_set high.region.bits (spot_answers high.region) high.region.entries) ≡ inner_set (suc d) f T =
      ap (λ x. allowed_by_both x (near_set high.region.bits (spot_answers high.region) high.region.entries)) u.0 ∙ (ap (allowed_by_both (near_set d (side false f) (half false T))) hs ∙ sym (inner_more d f T).0) in
      let whole : FoundHops (suc d) f R T (Some b) = (
        subst (SameAllowed (allowed_as (out-RegionHops (box_value b)).hops)) set j.0,
        hops_half p low false ln lr le lh lm (out-RegionHops (box_value b)).low j.1,
        λ e. subst (λ (n : ℕ). FoundHops n (side true f) (half true R) (half true T) (out-RegionHops (box_value b)).high) same_bits (hops_half p high true hn hr he hh hm (out-RegionHops (box_value b)).high j.2 e),
      ) in
      subst (λ (n : ℕ). FoundHops n f R T (Some b)) ln whole

-- ---- put together

pub joined_hops : (low high : Place) (b : Box RegionHops Global) (hops : AllowedHops) (first second : Allowed) (l h : Option (Box RegionHops Global))
    → SameAllowed first (near_set low.region.bits (spot_answers low.region) low.region.entries) → SameAllowed second (near_set high.region.bits (spot_answers high.region) high.region.entries)
    → SameAllowed (allowed_as hops) (allowed_by_both first second) → FoundInHalf low l → FoundInHalf high h → IsHopsBox hops l h b → JoinsHops low high (Some b)
joined_hops low high b hops first second l h e f x p q w =
    let L = near_set low.region.bits (spot_answers low.region) low.region.entries in
    let H = near_set high.region.bits (spot_answers high.region) high.region.entries in (
      subst (λ y. SameAllowed y (allowed_by_both L H)) (sym (ap allowed_as w.0)) (same_then (allowed_as hops) (allowed_by_both first second) (allowed_by_both L H) x (same_both first second L H e f).0),
      subst (FoundInHalf low) (sym w.1) p,
      subst (FoundInHalf high) (sym w.2) q,
    )
