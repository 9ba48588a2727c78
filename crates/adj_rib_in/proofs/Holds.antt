-- What path keys hold, told by path keys.
use Rattle.std.proofs.Common.{◌≡◌, ℕ, Bool, true, false, cond, Option, Some, None, refl, sym, ap, ◌∙◌}
use Rattle.std.specs.Prelude.{option_map, ◌&&◌, ◌||◌, ◌==◌, nat_lt}
use Rattle.std.specs.Map.{lookup}
use Rattle.std.specs.Ordering.{nat_cmp, ordering_then, is_lt}
use Rattle.std.specs.declared.cmp.Ordering.{Ordering}
use Rattle.std.specs.declared.cmp.Ordering.TheVariants.{Less, Equal, Greater}
use Rattle.std.proofs.lemmas.Bool.{and_from}
use Rattle.table_model.specs.Address.{Prefix, same_prefix}
use Rattle.fib_prefix.specs.Views.{via_as}
use Rattle.fib_prefix.specs.declared.event.Via.{Via}
use Rattle.route_model.specs.Events as events
use Rattle.route_model.specs.Events.{same_via}
use Rattle.route_model.specs.Choice as model
use Rattle.route_model.specs.Choice.{Place, Candidates, IsHeld, same_place}
use Rattle.route_model.proofs.Places.{place_key}
use Rattle.adj_rib_in.specs.declared.keys.PathKey.{PathKey}
use Rattle.adj_rib_in.specs.declared.keys.PathAttrs.{PathAttrs}
use Rattle.adj_rib_in.specs.Paths.{Paths, held_in, attrs_at}
use Rattle.adj_rib_in.specs.Bests.{attrs_as, is_excluded, out_as}
use Rattle.adj_rib_in.proofs.Orders.{place_as, via_same}
use Rattle.adj_rib_in.proofs.Views.{at_key, held_key}

abbrev pub place_at : Prefix → events.Via → Place
place_at p q = record { prefix = p; via = q }

pub same_value : {X : Type 0} (v w : X) → Some v ≡ Some w → v ≡ w
same_value v w i = cc

-- a candidate of the prefix and the path source is what is offered there
pub is_own : (held : Candidates) (p : Prefix) (q : events.Via) (d : Place × model.PathAttrs) → IsHeld held d → same_prefix p d.0.prefix ≡ true → same_via q d.0.via ≡ true → (lookup (same_place (place_at p q)) held ≡ Some d.1) × (place_at p q ≡ d.0)
is_own held p q d h e t =
    let x : place_at p q ≡ d.0 = place_key.same (place_at p q) d.0 (and_from (same_prefix p d.0.prefix) (same_via q d.0.via) e t) in
    (ap (λ y. lookup (same_place y) held) x ∙ h, x)

pub record HasCode (paths : Paths) (d : Place × model.PathAttrs) : Type 0 where
  pub key : PathKey
  pub place : place_as key ≡ d.0
  pub attrs : PathAttrs
  pub here : attrs_at paths key ≡ Some attrs
  pub is : attrs_as attrs ≡ d.1

pub code_of : (paths : Paths) (d : Place × model.PathAttrs) → IsHeld (held_in paths) d → HasCode paths d
code_of paths d h = by_key (held_key d.0 d.1 paths h)
  where
    by_attrs : (s : PathKey) → place_as s ≡ d.0 → (o : Option PathAttrs) → attrs_at paths s ≡ o → option_map attrs_as o ≡ Some d.1 → HasCode paths d
    by_attrs s e None f g = absurd cc
    by_attrs s e (Some attrs) f g = record { key = s; place = e; attrs = attrs; here = f; is = same_value (attrs_as attrs) d.1 g }
      where
        same_value : (v w : model.PathAttrs) → Some v ≡ Some w → v ≡ w
        same_value v w i = cc

    by_key : (s : PathKey) × (place_as s ≡ d.0) → HasCode paths d
    by_key r = by_attrs r.0 r.1 (attrs_at paths r.0) refl (sym (at_key r.0 paths) ∙ (ap (λ q. lookup (same_place q) (held_in paths)) r.1 ∙ h))

pub is_out_as : (but : Option Via) (q : Via) → is_excluded but q ≡ out_as but (via_as q)
is_out_as None q = refl
is_out_as (Some p) q = via_same p q

-- ---- the code's comparison

pub is_better : (x y : ℕ) (o : Ordering) → (nat_lt x y || ((x == y) && is_lt o)) ≡ is_lt (ordering_then (nat_cmp x y) o)
is_better x y o = by_tests (nat_lt x y) (x == y)
  where
    by_tests : (l e : Bool) → (l || (e && is_lt o)) ≡ is_lt (ordering_then (cond l Less (cond e Equal Greater)) o)
    by_tests true e = refl
    by_tests false true = refl
    by_tests false false = refl
