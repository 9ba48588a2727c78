-- The room for a plan, over base and ordered maps.
use Rattle.std.specs.Prelude.{◌≡◌, ⊤, ℕ, Option, Some, None, MatchOption}
use Rattle.fib_prefix.specs.Views.{elem_as}
use Rattle.fib_prefix.specs.declared.event.Elem.{Elem}
use Rattle.route_model.specs.Events as model
use Rattle.adj_rib_in.specs.declared.keys.PathAttrs.{PathAttrs}
use Rattle.adj_rib_in.specs.declared.flat.Flat.{Flat}
use Rattle.adj_rib_in.specs.Flat.{IsSlotOf, HasNoKey, HasHop}
use Rattle.route_choice.specs.declared.plan.Plan.{Plan}
use Rattle.route_choice.specs.Paths.{key_in, attrs_in}

abbrev pub planned_elem : Plan → model.Elem
planned_elem p = elem_as p.elem

-- the event for which a plan holds room in the ordered maps: none if its path key has a slot in the base
abbrev pub over_in : Option ℕ → Elem → Option Elem
over_in None e = Some e
over_in (Some i) e = None

abbrev pub over_of : Option Plan → Option Elem
over_of None = None
over_of (Some p) = over_in p.at p.elem

-- the place is that of the path key's slot, if it has one
abbrev pub HasPlace : Flat → Option ℕ → Elem → Type 0
HasPlace b at e = MatchOption at (HasNoKey b (key_in e)) (IsSlotOf b (key_in e))

-- if its path key has a slot, what it offers has a hop with a number
abbrev pub HasHopNumber : Flat → Elem → Type 0
HasHopNumber b e = (o : PathAttrs) → attrs_in e ≡ Some o → HasHop b.hops.keys o.hop

abbrev pub HasSpaceAt : Flat → Option ℕ → Elem → Type 0
HasSpaceAt b at e = MatchOption at (HasNoKey b (key_in e)) (λ i. IsSlotOf b (key_in e) i × HasHopNumber b e)

abbrev pub HasSpace : Flat → Option Plan → Type 0
HasSpace b None = ⊤
HasSpace b (Some p) = HasSpaceAt b p.at p.elem
