-- The candidates that path keys hold.
use Rattle.std.proofs.Common.{◌≡◌, Bool, true, false, cond, Some, refl, sym, ap, ◌∙◌}
use Rattle.std.specs.Prelude.{option_map, if◌then◌else◌}
use Rattle.std.specs.Map.{lookup}
use Rattle.std.specs.Ordering.{is_eq}
use Rattle.fib_prefix.specs.Views.{elem_as}
use Rattle.fib_prefix.specs.declared.event.Elem.{Elem}
use Rattle.fib_prefix.specs.declared.event.Elem.TheVariants as elem
use Rattle.route_model.specs.Choice as model
use Rattle.route_model.specs.Choice.{Place, IsElem, same_place, after_elem, is_about, offered}
use Rattle.route_model.proofs.Places.{place_key}
use Rattle.route_model.proofs.Said.{candidates_after, attrs_after}
use Rattle.adj_rib_in.specs.declared.keys.PathKey.{PathKey}
use Rattle.adj_rib_in.specs.Orders.{key_cmp}
use Rattle.adj_rib_in.specs.Paths.{Paths, held_in, attrs_at}
use Rattle.route_choice.specs.Paths.{key_in, attrs_in}
use Rattle.adj_rib_in.proofs.Orders.{place_as, key_same, key_total, is_prefix, is_peer}
use Rattle.adj_rib_in.proofs.Views.{are_candidates, at_key, held_key, by_paths, flips}
use Rattle.adj_rib_in.specs.Bests.{attrs_as}

pub about_is : (at : Place) (e : Elem) → is_about at (elem_as e) ≡ same_place at (place_as (key_in e))
about_is at (elem.Put q p path hop) = refl
about_is at (elem.Cut q p) = refl

pub offered_is : (e : Elem) → offered (elem_as e) ≡ option_map attrs_as (attrs_in e)
offered_is (elem.Put q p path hop) = refl
offered_is (elem.Cut q p) = refl

pub is_elem : (e : Elem) → IsElem (elem_as e)
is_elem (elem.Put q p path hop) = (is_prefix p, is_peer q.peer)
is_elem (elem.Cut q p) = (is_prefix p, is_peer q.peer)

-- path keys that offer what an elementary event says, and else the same, hold the candidates after it
pub changed : (paths after : Paths) (e : Elem) → ((s : PathKey) → attrs_at after s ≡ cond (is_eq (key_cmp (key_in e) s)) (attrs_in e) (attrs_at paths s)) → held_in after ≡ after_elem (held_in paths) (elem_as e)
changed paths after e h = by_paths after (after_elem (held_in paths) (elem_as e)) (candidates_after (held_in paths) (elem_as e) (are_candidates paths) (is_elem e)) image here
  where
    after_it : (q : Place) → lookup (same_place q) (after_elem (held_in paths) (elem_as e)) ≡ (if same_place q (place_as (key_in e)) then option_map attrs_as (attrs_in e) else lookup (same_place q) (held_in paths))
    after_it q = attrs_after q (held_in paths) (elem_as e) (are_candidates paths) (is_elem e) ∙ (ap (λ b. cond b (offered (elem_as e)) (lookup (same_place q) (held_in paths))) (about_is q e) ∙ ap (λ o. cond (same_place q (place_as (key_in e))) o (lookup (same_place q) (held_in paths))) (offered_is e))

    by_test : (q : Place) (v : model.PathAttrs) (b : Bool) → same_place q (place_as (key_in e)) ≡ b → cond b (option_map attrs_as (attrs_in e)) (lookup (same_place q) (held_in paths)) ≡ Some v → (s : PathKey) × (place_as s ≡ q)
    by_test q v true t g = (key_in e, sym (place_key.same q (place_as (key_in e)) t))
    by_test q v false t g = held_key q v paths g

    image : (q : Place) (v : model.PathAttrs) → lookup (same_place q) (after_elem (held_in paths) (elem_as e)) ≡ Some v → (s : PathKey) × (place_as s ≡ q)
    image q v f = by_test q v (same_place q (place_as (key_in e))) refl (sym (after_it q) ∙ f)

    mapped : (b : Bool) (s : PathKey) → option_map attrs_as (cond b (attrs_in e) (attrs_at paths s)) ≡ cond b (option_map attrs_as (attrs_in e)) (lookup (same_place (place_as s)) (held_in paths))
    mapped true s = refl
    mapped false s = sym (at_key s paths)

    here : (s : PathKey) → option_map attrs_as (attrs_at after s) ≡ lookup (same_place (place_as s)) (after_elem (held_in paths) (elem_as e))
    here s =
        ap (option_map attrs_as) (h s) ∙ (mapped (is_eq (key_cmp (key_in e) s)) s
        ∙ (ap (λ b. cond b (option_map attrs_as (attrs_in e)) (lookup (same_place (place_as s)) (held_in paths))) (flips key_total (key_in e) s ∙ key_same s (key_in e)) ∙ sym (after_it (place_as s))))
