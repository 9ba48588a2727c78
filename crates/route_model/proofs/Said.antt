-- Candidates after elementary events.
use Rattle.std.proofs.Common.{◌≡◌, List, [], ◌∷◌, refl, ap, ◌∙◌}
use Rattle.std.specs.Prelude.{fold, if◌then◌else◌}
use Rattle.std.specs.List.{AllByRecursion}
use Rattle.std.specs.List.Sorted.{IsStrictlySortedBy}
use Rattle.std.specs.Map.{lookup}
use Rattle.route_model.specs.Events.{Elem, Put, Cut}
use Rattle.route_model.specs.Choice.{Place, PathAttrs, Candidates, AreCandidates, IsPlace, IsElem, same_place, place_cmp, after_elem, after_elems, is_about, offered, last_attrs}
use Rattle.route_model.proofs.Keyed.{all_put, sorted_put, all_cut, sorted_cut, lookup-put, lookup-cut}
use Rattle.route_model.proofs.Places.{place_key}

pub candidates_after : (held : Candidates) (elem : Elem) → AreCandidates held → IsElem elem → AreCandidates (after_elem held elem)
candidates_after held (Put via prefix path hop) a h =
    let at : Place = record { prefix = prefix; via = via } in
    let attrs : PathAttrs = record { path = path; hop = hop } in
    (all_put place_cmp IsPlace held at attrs a.0 h, sorted_put place_key held at attrs a.1)
candidates_after held (Cut via prefix) a h =
    let at : Place = record { prefix = prefix; via = via } in
    (all_cut (same_place at) IsPlace held a.0, sorted_cut place_cmp (same_place at) held a.1)

-- what is offered at a place after one elementary event
pub attrs_after : (at : Place) (held : Candidates) (elem : Elem) → AreCandidates held → IsElem elem → lookup (same_place at) (after_elem held elem) ≡ (if is_about at elem then offered elem else lookup (same_place at) held)
attrs_after at held (Put via prefix path hop) a h =
    let put : Place = record { prefix = prefix; via = via } in
    let attrs : PathAttrs = record { path = path; hop = hop } in
    lookup-put place_key at held put attrs a.0 h
attrs_after at held (Cut via prefix) a h = lookup-cut place_key at (record { prefix = prefix; via = via }) held a.1

said_from : (at : Place) (held : Candidates) (elems : List Elem) → AreCandidates held → AllByRecursion IsElem elems → lookup (same_place at) (after_elems held elems) ≡ fold (λ attrs elem. if is_about at elem then offered elem else attrs) (lookup (same_place at) held) elems
said_from at held [] a h = refl
said_from at held (e ∷ elems) a h =
    said_from at (after_elem held e) elems (candidates_after held e a h.0) h.1
    ∙ ap (λ o. fold (λ attrs elem. if is_about at elem then offered elem else attrs) o elems) (attrs_after at held e a h.0)

pub none_yet : AreCandidates []
unfolding IsStrictlySortedBy
none_yet = (tt, tt)

pub last_is_said : (at : Place) (elems : List Elem) → AllByRecursion IsElem elems → lookup (same_place at) (after_elems [] elems) ≡ last_attrs at elems
last_is_said at elems h = said_from at [] elems none_yet h
