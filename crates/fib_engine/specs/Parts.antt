-- What is seen of an engine's parts, and what is known of them while an elementary event is planned.
use Rattle.std.specs.Prelude.{◌≡◌, ◌≤◌, ◌<◌, ◌+◌, ◌^◌, [], ◌∷◌, length, map, true, Some, None}
use Rattle.route_model.specs.Events.{Elem}
use Rattle.kept_model.specs.Feed.{entries_of, hops_after}
use Rattle.kept_model.specs.Kept.{is_due}
use Rattle.fib_addr.specs.Hops.{most_hops}
use Rattle.fib_prefix.specs.Views.{elem_as}
use Rattle.fib_delta.specs.Views.{change_as}
use Rattle.fib_prefix.specs.declared.event.Elem as code_elem
use Rattle.route_choice.specs.Held.{IsChoice}
use Rattle.route_choice.specs.declared.choice.Choice.{Choice}
use Rattle.smalta_keep.specs.Views.{moved_of}
use Rattle.route_tries.specs.Sizes.{first_short, sizes_as}
use Rattle.fib_engine.specs.Tables.{Both, AreTold, ArePlanned, ArePut, AreUndone, KeepTables, both_firsts, gathered, needs_put, table_of}
use Rattle.fib_engine.specs.Numbers.{IsOwnNumber, IsRouteOf}
use Rattle.fib_engine.specs.Held.{AreKeptNeeds, EngineState, IsSound, if_loaded}
use Rattle.fib_engine.specs.declared.parts.Parts as code_parts
use Rattle.fib_engine.specs.declared.parts.Waiting as code_waiting
use Rattle.fib_engine.specs.declared.parts.Chosen as code_chosen

-- what is seen of them
abbrev pub state_in : code_parts.Parts → EngineState
state_in p = record {
  every = p.limits.every;
  fewest = p.limits.fewest;
  sizes = sizes_as p.limits.sizes;
  candidates = p.candidates.candidates;
  hops = p.hops.list;
  table = table_of p.tables;
  loaded = p.is_loaded;
  events = p.events;
  moves = p.moves;
}

-- they are sound, and so are the needs
abbrev pub AreSound : code_parts.Parts → Type 0
AreSound p = IsSound p.candidates.candidates p.hops.list p.is_loaded p.tables × AreKeptNeeds (sizes_as p.limits.sizes) (if_loaded p.is_loaded (entries_of p.hops.list p.candidates.candidates)) p.needs

-- the elementary event that is planned
abbrev pub waiting_elem : code_waiting.Waiting → Elem
waiting_elem w = elem_as w.elem

-- What an event chooses is known, it is in the candidates' room, and there is room for its hop: the load ended, and all is sound.
pub record IsChosenIn (e : code_elem.Elem) (c : code_chosen.Chosen) (p : code_parts.Parts) : Type 0 where
  pub loaded : p.is_loaded ≡ true
  pub sound : IsSound p.candidates.candidates p.hops.list true p.tables
  pub kept : AreKeptNeeds (sizes_as p.limits.sizes) (entries_of p.hops.list p.candidates.candidates) p.needs
  pub in_room : p.candidates.room ≡ Some (elem_as e)
  pub choice : Choice
  pub chooses : IsChoice p.candidates.candidates (elem_as e) choice
  pub route : IsRouteOf (hops_after p.hops.list (elem_as e ∷ [])) choice c.route
  pub own : IsOwnNumber p.hops.list e c.own
  pub few : length (hops_after p.hops.list (elem_as e ∷ [])) ≤ most_hops
  pub room : 1 ≤ p.hops.spare
  pub counted : p.events + 1 < 2 ^ 64

-- An event is planned: the load ended, and what the tables were before is sound; with all that making it or undoing it needs.
pub record IsWaiting (w : code_waiting.Waiting) (p : code_parts.Parts) : Type 0 where
  pub loaded : p.is_loaded ≡ true
  pub before : Both
  pub sound : IsSound p.candidates.candidates p.hops.list true before
  pub kept : AreKeptNeeds (sizes_as p.limits.sizes) (entries_of p.hops.list p.candidates.candidates) p.needs
  pub tables : KeepTables before p.tables
  pub put : ArePut w.chosen.route before p.tables
  pub told : AreTold p.tables p.limits.fewest w.chosen.route (is_due p.limits.every (p.events + 1)) w.fitting.plan.v4 w.fitting.plan.v6
  pub planned : ArePlanned p.tables w.fitting.plan
  pub undone : AreUndone w.fitting.plan p.tables before
  pub changes : map change_as w.fitting.plan.changes.changes.items ≡ gathered (moved_of w.fitting.plan.v4) (moved_of w.fitting.plan.v6)
  pub first : w.fitting.plan.changes.first ≡ length (both_firsts (moved_of w.fitting.plan.v4) (moved_of w.fitting.plan.v6))
  pub in_room : p.candidates.room ≡ Some (waiting_elem w)
  pub choice : Choice
  pub chooses : IsChoice p.candidates.candidates (waiting_elem w) choice
  pub route : IsRouteOf (hops_after p.hops.list (waiting_elem w ∷ [])) choice w.chosen.route
  pub own : IsOwnNumber p.hops.list w.elem w.chosen.own
  pub few : length (hops_after p.hops.list (waiting_elem w ∷ [])) ≤ most_hops
  pub room : 1 ≤ p.hops.spare
  pub counted : p.events + 1 < 2 ^ 64
  pub needs : w.fitting.needs ≡ needs_put p.limits.sizes.direct w.chosen.route before
  pub fits : first_short (sizes_as p.limits.sizes) (needs_put p.limits.sizes.direct w.chosen.route before) ≡ None
