-- The elementary events that are still to come.
use Rattle.std.specs.Prelude.{◌≡◌, List, [], ◌∷◌, ◌++◌, drop, map, Option, Some, None}
use Rattle.route_model.specs.Events.{Elem}
use Rattle.route_model.specs.Choice.{Candidates, after_elems, elems_after}
use Rattle.fib_prefix.specs.Views.{elem_as, event_as}
use Rattle.fib_prefix.specs.declared.event.Elem as code_elem
use Rattle.router_steps.specs.declared.upcoming.Upcoming.{Upcoming}

-- those of the event at hand
abbrev pub at_hand : Upcoming → List Elem
at_hand u = map elem_as (drop u.over u.elems.items)

-- all of them, from these candidates on
abbrev pub to_come : Upcoming → Candidates → List Elem
to_come u held = at_hand u ++ elems_after (after_elems held (at_hand u)) (map event_as u.events.now)

-- this one is the next, if one is
abbrev pub IsNextIn : Upcoming → Candidates → Option code_elem.Elem → Type 0
IsNextIn u held None = to_come u held ≡ []
IsNextIn u held (Some e) = (more : List Elem) × (at_hand u ≡ elem_as e ∷ more)
