-- Before the first step.
use Rattle.std.proofs.Common.{◌≡◌, List, [], ◌∷◌, map, None, replicate, refl, sym, ap, ◌∙◌, subst, append-nil}
use Rattle.std.specs.List.{AllByRecursion}
use Rattle.table_model.specs.Address.{Address, IsPrefix, same_family}
use Rattle.table_model.specs.declared.family.Family.{Family}
use Rattle.table_model.specs.declared.family.Family.TheVariants.{V4, V6}
use Rattle.table_model.specs.Entries.{Entries}
use Rattle.route_model.specs.Events.{Elem, IsEvent}
use Rattle.route_model.specs.Choice.{IsElem, after_elems, elems_after}
use Rattle.route_model.proofs.Elems.{candidates_stay, elems_of_events}
use Rattle.route_model.proofs.Keyed.{all_filter}
use Rattle.route_model.proofs.Said.{none_yet}
use Rattle.kept_model.specs.Feed.{entries_of, full_at, hops_after}
use Rattle.fib_prefix.specs.Views.{event_as}
use Rattle.fib_prefix.specs.declared.event.Event as code_event
use Rattle.poptrie_update.specs.Cursors.{Dues, FitsAll, OpenLookups}
use Rattle.poptrie_update.specs.Lives.{Living, Shows}
use Rattle.fib_engine.specs.Held.{EngineState, engine_routes}
use Rattle.fib_engine.specs.Stands.{EngineStands}
use Rattle.fib_engine.proofs.Taking.{is_address}
use Rattle.fib_addr.proofs.Prefixes.{is_prefix}
use Rattle.fib_prefix.specs.declared.event.Event.TheVariants as event
use Rattle.fib_router.specs.Lives.{AreNewLives, IsNewLive}
use Rattle.fib_router.specs.Router.{Routing}
use Rattle.step_script.specs.Machine.{World, at_first}
use Rattle.router_steps.specs.Engine.{IsEngineAt}
use Rattle.router_steps.specs.Paused.{IsAt, IsWorld}
use Rattle.router_steps.specs.Runs.{IsStepper}
use Rattle.router_steps.specs.Stepping.{world_of}
use Rattle.router_steps.specs.Upcoming.{to_come}
use Rattle.router_steps.specs.World.{world_hops}
use Rattle.router_steps.specs.declared.upcoming.Upcoming.{Upcoming}
use Rattle.router_steps.proofs.First.{first_at, trie_first}
use Rattle.router_steps.proofs.WorldTurning.{are_turns, starts, starts_placed, turns_in, turns_proper}
use Rattle.router_steps.proofs.Worlds.{is_world}

is_event : (e : code_event.Event) → IsEvent (event_as e)
is_event (event.Announce v prefix path hop origin) = (is_address v.peer.addr, is_prefix prefix, is_address hop)
is_event (event.Withdraw v prefix) = (is_address v.peer.addr, is_prefix prefix)
is_event (event.Down peer) = is_address peer.addr

all_events : (events : List code_event.Event) → AllByRecursion IsEvent (map event_as events)
all_events [] = tt
all_events (e ∷ events) = (is_event e, all_events events)

nothing_full : (hops : List Address) → full_at hops [] ≡ None
unfolding full_at
nothing_full hops = refl

module _ (engine : EngineState) (load : List Elem) (s : EngineStands load [] engine) (events : List code_event.Event) where
  abbrev updates : List Elem
  updates = elems_after (after_elems [] load) (map event_as events)

  abbrev w : World
  w = world_of engine.sizes load (map event_as events)

  proper : AllByRecursion IsElem updates
  proper = elems_of_events (after_elems [] load) (map event_as events) (candidates_stay [] load none_yet s.proper.0) (all_events events)

  routes : w.routes 0 ≡ engine_routes engine
  routes =
      starts load updates
      ∙ (ap (λ (h : List Address). entries_of h (after_elems [] load)) (sym (s.hops ∙ ap (hops_after []) (append-nil load))) ∙ ap (entries_of engine.hops) (sym s.candidates))

  world : (f : Family) → IsWorld w f
  world f =
      is_world w (turns_in load updates) (are_turns engine.sizes load updates s.proper.0 proper) (turns_proper load updates proper) f
      (all_filter (λ e. same_family f e.0.family) IsPrefix (w.routes 0) (starts_placed (world_hops load updates) load s.proper.0).0)

  half : (f : Family) (l : Living) (cs : OpenLookups) → IsNewLive f engine l → cs ≡ replicate 64 None → ((m : Living) (due : Dues) → FitsAll m cs due) → IsAt w f at_first (record { live = l; cursors = cs })
  half f l cs new none fits =
      first_at w f l cs (world f) (trie_first w f l new.few new.live.family new.live.direct new.live.nodes new.live.leaves new.time (new.live.quiet refl) (subst (λ (E : Entries). Shows l E E) (sym routes) new.live.shows) new.past) none fits

  pub first_stands : (r : Routing) (c d : OpenLookups) (u : Upcoming) → r.held ≡ engine → r.begun ≡ None → AreNewLives engine r.lives → c ≡ replicate 64 None → d ≡ replicate 64 None → ((m : Living) (due : Dues) → FitsAll m c due) → ((m : Living) (due : Dues) → FitsAll m d due) → to_come u engine.candidates ≡ elems_after engine.candidates (map event_as events) → IsStepper w at_first (record { router = r; v4 = c; v6 = d; upcoming = u; ended = 0; begun = None })
  first_stands r c d u is rest new c_none d_none c_fits d_fits come = record {
    v4 = half V4 r.lives.v4 c new.0 c_none c_fits;
    v6 = half V6 r.lives.v6 d new.1 d_none d_fits;
    engine = subst (λ (k : EngineState). IsEngineAt w 0 k (to_come u k.candidates)) (sym is) (subst (λ (es : List Elem). IsEngineAt w 0 engine es) (sym (come ∙ ap (λ C. elems_after C (map event_as events)) s.candidates)) (record {
      load = load;
      done = [];
      proper = proper;
      stands = s;
      room = nothing_full (hops_after [] load);
      many = refl;
      world = refl;
    }));
    ended = refl;
    seen = λ f n k m held is. absurd (cc);
    begun = rest;
  }
