-- The candidates that path keys hold.
use Rattle.std.proofs.Common.{◌≡◌, List, [], ◌∷◌, Bool, true, false, cond, Option, Some, None, refl, sym, ap, ◌∙◌}
use Rattle.std.specs.Prelude.{option_map, if◌then◌else◌}
use Rattle.std.specs.Cmp.{IsTotalOrder}
use Rattle.std.specs.Map.{lookup}
use Rattle.std.specs.Ordering.{is_eq, ordering_reverse}
use Rattle.std.specs.BTreeMap.{is_at}
use Rattle.std.specs.declared.cmp.Ordering.{Ordering}
use Rattle.std.specs.declared.cmp.Ordering.TheVariants.{Less, Equal, Greater}
use Rattle.route_model.specs.Choice as model
use Rattle.route_model.specs.Choice.{Place, Candidates, AreCandidates, IsElem, same_place, is_about, offered}
use Rattle.route_model.proofs.Keyed.{same_entries}
use Rattle.route_model.proofs.Places.{place_key}
use Rattle.route_model.proofs.Said.{none_yet, candidates_after, attrs_after}
use Rattle.adj_rib_in.specs.declared.keys.PathKey.{PathKey}
use Rattle.adj_rib_in.specs.declared.keys.PathAttrs.{PathAttrs}
use Rattle.adj_rib_in.specs.Orders.{key_cmp}
use Rattle.adj_rib_in.specs.Paths.{Paths, key_says, held_in, flat, attrs_at}
use Rattle.adj_rib_in.specs.Bests.{attrs_as}
use Rattle.adj_rib_in.proofs.Orders.{place_as, key_same, is_place}

said_is : (s : PathKey) (o : Option PathAttrs) → IsElem (key_says s o)
said_is s (Some attrs) = is_place s
said_is s None = is_place s

pub are_candidates : (paths : Paths) → AreCandidates (held_in paths)
unfolding held_in
are_candidates [] = none_yet
are_candidates (e ∷ paths) = candidates_after (held_in paths) (key_says e.0 e.1) (are_candidates paths) (said_is e.0 e.1)

pub lookup-held : (at : Place) (paths : Paths) → lookup (same_place at) (held_in paths) ≡ option_map attrs_as (flat (lookup (λ s. same_place at (place_as s)) paths))
unfolding held_in
lookup-held at [] = refl
lookup-held at (e ∷ paths) = attrs_after at (held_in paths) (key_says e.0 e.1) (are_candidates paths) (said_is e.0 e.1) ∙ by_attrs e.1 (same_place at (place_as e.0)) refl (lookup-held at paths)
  where
    there : Option (Option PathAttrs)
    there = lookup (λ s. same_place at (place_as s)) paths

    by_attrs : (o : Option PathAttrs) (b : Bool) → same_place at (place_as e.0) ≡ b → lookup (same_place at) (held_in paths) ≡ option_map attrs_as (flat there)
        → (if is_about at (key_says e.0 o) then offered (key_says e.0 o) else lookup (same_place at) (held_in paths)) ≡ option_map attrs_as (flat (cond b (Some o) there))
    by_attrs (Some attrs) true t ih = ap (λ c. cond c (Some (attrs_as attrs)) (lookup (same_place at) (held_in paths))) t
    by_attrs (Some attrs) false t ih = ap (λ c. cond c (Some (attrs_as attrs)) (lookup (same_place at) (held_in paths))) t ∙ ih
    by_attrs None true t ih = ap (λ c. cond c None (lookup (same_place at) (held_in paths))) t
    by_attrs None false t ih = ap (λ c. cond c None (lookup (same_place at) (held_in paths))) t ∙ ih

pub lookup_by_test : {K X : Type 0} (f g : K → Bool) (es : List (K × X)) → ((k : K) → f k ≡ g k) → lookup f es ≡ lookup g es
lookup_by_test f g [] h = refl
lookup_by_test f g (e ∷ es) h = ap (λ b. cond b (Some e.1) (lookup f es)) (h e.0) ∙ ap (cond (g e.0) (Some e.1)) (lookup_by_test f g es h)

-- at a path key's place
pub at_key : (s : PathKey) (paths : Paths) → lookup (same_place (place_as s)) (held_in paths) ≡ option_map attrs_as (attrs_at paths s)
at_key s paths = lookup-held (place_as s) paths ∙ ap (λ o. option_map attrs_as (flat o)) (lookup_by_test (λ t. same_place (place_as s) (place_as t)) (is_at (key_cmp s)) paths (λ t. sym (key_same s t)))

passing : {K X : Type 0} (test : K → Bool) (v : X) (es : List (K × X)) → lookup test es ≡ Some v → (k : K) × (test k ≡ true)
passing test v [] h = absurd cc
passing {K = K} {X = X} test v (e ∷ es) h = by_test (test e.0) refl h (passing test v es)
  where
    by_test : (b : Bool) → test e.0 ≡ b → cond b (Some e.1) (lookup test es) ≡ Some v → (lookup test es ≡ Some v → (k : K) × (test k ≡ true)) → (k : K) × (test k ≡ true)
    by_test true t g ih = (e.0, t)
    by_test false t g ih = ih g

-- a place where something is held is a path key's
pub held_key : (q : Place) (v : model.PathAttrs) (paths : Paths) → lookup (same_place q) (held_in paths) ≡ Some v → (s : PathKey) × (place_as s ≡ q)
held_key q v paths h = by_found (lookup (λ s. same_place q (place_as s)) paths) refl (sym (lookup-held q paths) ∙ h)
  where
    by_found : (o : Option (Option PathAttrs)) → lookup (λ s. same_place q (place_as s)) paths ≡ o → option_map attrs_as (flat o) ≡ Some v → (s : PathKey) × (place_as s ≡ q)
    by_found None f e = absurd cc
    by_found (Some o) f e = let r = passing (λ s. same_place q (place_as s)) o paths f in (r.0, sym (place_key.same q (place_as r.0) r.1))

pub by_paths : (paths : Paths) (held : Candidates) → AreCandidates held → ((q : Place) (v : model.PathAttrs) → lookup (same_place q) held ≡ Some v → (s : PathKey) × (place_as s ≡ q)) → ((s : PathKey) → option_map attrs_as (attrs_at paths s) ≡ lookup (same_place (place_as s)) held) → held_in paths ≡ held
by_paths paths held a i h = same_entries place_key (held_in paths) held (are_candidates paths).1 a.1 (are_candidates paths).0 a.0 (λ q. by_found q (lookup (same_place q) (held_in paths)) refl (lookup (same_place q) held) refl)
  where
    at_one : (q : Place) (s : PathKey) → place_as s ≡ q → lookup (same_place q) (held_in paths) ≡ lookup (same_place q) held
    at_one q s e = ap (λ r. lookup (same_place r) (held_in paths)) (sym e) ∙ (at_key s paths ∙ (h s ∙ ap (λ r. lookup (same_place r) held) e))

    by_found : (q : Place) (x : Option model.PathAttrs) → lookup (same_place q) (held_in paths) ≡ x → (y : Option model.PathAttrs) → lookup (same_place q) held ≡ y → lookup (same_place q) (held_in paths) ≡ lookup (same_place q) held
    by_found q (Some v) f y g = let r = held_key q v paths f in at_one q r.0 r.1
    by_found q None f (Some w) g = let r = i q w g in at_one q r.0 r.1
    by_found q None f None g = f ∙ sym g

-- path keys with the same offers hold the same candidates
pub unchanged : (paths after : Paths) → ((s : PathKey) → attrs_at after s ≡ attrs_at paths s) → held_in after ≡ held_in paths
unchanged paths after h = by_paths after (held_in paths) (are_candidates paths) (λ q v f. held_key q v paths f) (λ s. ap (option_map attrs_as) (h s) ∙ sym (at_key s paths))

-- two are tied whichever comes first
pub flips : {K : Type 0} {R : K → K → Ordering} → IsTotalOrder R → (x y : K) → is_eq (R x y) ≡ is_eq (R y x)
flips {R = R} total x y = ap is_eq (total.antisymm x y) ∙ reversed (R y x)
  where
    reversed : (o : Ordering) → is_eq (ordering_reverse o) ≡ is_eq o
    reversed Less = refl
    reversed Equal = refl
    reversed Greater = refl
