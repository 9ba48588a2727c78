-- An engine with an event that is planned, or none.
use Rattle.std.specs.Prelude.{◌≡◌, true, Option, Some, None, option_map}
use Rattle.table_model.specs.Address.{Prefix}
use Rattle.table_model.specs.declared.family.Family.{Family}
use Rattle.table_model.specs.Entries.{Entries}
use Rattle.route_model.specs.Events.{Elem}
use Rattle.fib_addr.specs.Views.{prefix_as}
use Rattle.fib_addr.specs.declared.addr.Addr.{Addr}
use Rattle.fib_addr.specs.declared.entry.Hop as code_hop
use Rattle.fib_prefix.specs.Views.{elem_as}
use Rattle.smalta_keep.specs.Views.{with_planned}
use Rattle.fib_engine.specs.Tables.{Route, only, route_in}
use Rattle.fib_engine.specs.Held.{EngineState, engine_routes}
use Rattle.fib_engine.specs.Stands.{routes_after}
use Rattle.fib_engine.specs.Parts.{AreSound, IsWaiting}
use Rattle.fib_engine.specs.declared.parts.Parts as code_parts
use Rattle.fib_engine.specs.declared.parts.Waiting as code_waiting
use Rattle.fib_engine.specs.declared.staged.Planned as code_planned

-- what the engine holds, and the elementary event that is planned, if one is
pub record Staging : Type 0 where
  pub held : EngineState
  pub planned : Option Elem

-- the elementary event of a token
abbrev pub elem_of_plan : code_planned.Planned → Elem
elem_of_plan p = elem_as p.elem

-- the route that it changes, with the number that the hop chosen then has or gets, 0 if none is; nothing if it changes no chosen hop
abbrev pub planned_route : code_planned.Planned → Route
planned_route p = p.route

-- the hop that it gives a number, with that number
abbrev pub planned_hop : code_planned.Planned → Option (code_hop.Hop × Addr)
planned_hop p = p.brings

-- the prefix at which it changes the chosen hop, if it changes one
abbrev pub changed_prefix : code_planned.Planned → Option Prefix
changed_prefix p = option_map (λ r. prefix_as r.0) (planned_route p)

-- in each family the route leads from the routes to those after the event
abbrev pub IsTurn : Elem → EngineState → code_planned.Planned → Type 0
IsTurn elem old p = (f : Family) → with_planned (route_in f (planned_route p)) (only f (engine_routes old)) ≡ only f (routes_after elem old)

-- the load ended, and nothing is planned, and all is sound; or an event is planned
abbrev pub Waits : Option code_waiting.Waiting → code_parts.Parts → Type 0
Waits None p = (p.is_loaded ≡ true) × AreSound p
Waits (Some w) p = IsWaiting w p

-- the routes, or those after the event, if one is planned
abbrev pub routes_once : Option Elem → EngineState → Entries
routes_once None e = engine_routes e
routes_once (Some elem) e = routes_after elem e

abbrev pub routes_planned : Staging → Entries
routes_planned s = routes_once s.planned s.held
