-- An event that is planned, and then made or undone.
use Rattle.std.proofs.Common.{◌≡◌, ℕ, ◌+◌, List, [], ◌∷◌, ◌++◌, Bool, true, false, cond, Option, Some, None, length, map, refl, sym, ap, subst, ◌∙◌}
use Rattle.std.specs.Prelude.{option_map}
use Rattle.table_model.specs.Address.{Address, Prefix, same_family}
use Rattle.table_model.specs.declared.family.Family.{Family}
use Rattle.table_model.specs.declared.family.Family.TheVariants.{V4, V6}
use Rattle.table_model.specs.Entries.{Entries, match_in}
use Rattle.table_model.specs.Table.{Table, lpm}
use Rattle.route_model.specs.Events.{Elem, elem_prefix}
use Rattle.route_model.specs.Choice.{Candidates, IsElem, after_elem, chosen_for}
use Rattle.kept_model.specs.Feed.{entries_of, hops_after}
use Rattle.kept_model.specs.Kept.{changed_at, is_due}
use Rattle.moves_model.specs.Moved.{table_by}
use Rattle.moves_model.specs.Reported.{first_changes, told_of}
use Rattle.kept_model.proofs.Outside.{routes_outside}
use Rattle.fib_addr.specs.Views.{addr_as, prefix_as}
use Rattle.fib_addr.specs.declared.entry.Hop as code_hop
use Rattle.fib_addr.specs.declared.prefix.Prefix as code_prefix
use Rattle.fib_delta.proofs.Held.{is_prefix}
use Rattle.fib_prefix.specs.Views.{elem_as}
use Rattle.fib_prefix.specs.declared.event.Elem as code_elem
use Rattle.orig_tree.specs.Views.{InPlace}
use Rattle.route_choice.specs.Held.{IsChoice}
use Rattle.route_choice.specs.declared.choice.Choice.{Choice}
use Rattle.fib_delta.specs.Views.{change_as}
use Rattle.fib_delta.specs.declared.change.Change as code_change
use Rattle.table_model.specs.Changes.{after_changes}
use Rattle.smalta_keep.specs.Views.{moved_of, with_planned}
use Rattle.smalta_keep.specs.declared.repair.Repair.{Repair}
use Rattle.smalta_keep.proofs.Planned.{nothing_planned, nothing_told}
use Rattle.route_tries.specs.Parts.{AreAlikeOutside}
use Rattle.route_tries.specs.Sizes.{first_short, needs_of, needs_of_both, shortage, sizes_as}
use Rattle.fib_engine.specs.Tables.{Both, Route, KeepRoutes, MadeBy, both_firsts, gathered, labels_of, needs_put, only, route_in, table_of}
use Rattle.fib_engine.specs.Numbers.{HasNumber, IsNewNumber, IsRouteOf}
use Rattle.fib_engine.specs.Held.{AreKeptNeeds, EngineState, IsSound, engine_routes, if_loaded}
use Rattle.fib_engine.specs.Stands.{TakesElem, changes_of, first_of, routes_after}
use Rattle.fib_engine.specs.Parts.{AreSound, IsChosenIn, IsWaiting, state_in, waiting_elem}
use Rattle.fib_engine.specs.Staged.{IsTurn, Waits, planned_route, routes_once}
use Rattle.fib_engine.specs.declared.parts.Chosen as code_chosen
use Rattle.fib_engine.specs.declared.parts.Parts as code_parts
use Rattle.fib_engine.specs.declared.parts.Waiting as code_waiting
use Rattle.fib_engine.specs.declared.tables.EventChanges.{EventChanges}
use Rattle.fib_engine.specs.declared.staged.Planned as code_planned
use Rattle.fib_engine.proofs.Holding.{of_only, only_placed}
use Rattle.fib_engine.proofs.Needing.{needs_known}
use Rattle.fib_engine.proofs.Taking.{IsTaken, chosen_has, is_elem, route_changed, routes_placed, routes_turn, table_placed, taken}

-- ---- by whether an event is planned
pub at_rest : (o : Option code_waiting.Waiting) (p : code_parts.Parts) → option_map waiting_elem o ≡ None → Waits o p → (p.is_loaded ≡ true) × AreSound p
at_rest None p e w = w
at_rest (Some x) p e w = absurd (cc)

pub still_rests : (o : Option code_waiting.Waiting) (p : code_parts.Parts) → option_map waiting_elem o ≡ None → p.is_loaded ≡ true → AreSound p → Waits o p
still_rests None p e l s = (l, s)
still_rests (Some x) p e l s = absurd (cc)

pub waiting_is : (o : Option code_waiting.Waiting) (w : code_waiting.Waiting) (p : code_parts.Parts) → o ≡ Some w → Waits o p → IsWaiting w p
waiting_is o w p e i = subst (λ (x : Option code_waiting.Waiting). Waits x p) e i

pub some_same : {A : Type 0} {x y : A} → (let r : Option A = Some x in r) ≡ Some y → x ≡ y
some_same e = cc

pub sound_fits : (p : code_parts.Parts) → p.is_loaded ≡ true → AreSound p → shortage (sizes_as p.limits.sizes) (entries_of p.hops.list p.candidates.candidates) ≡ None
sound_fits p l s = ap (λ (b : Bool). shortage (sizes_as p.limits.sizes) (if_loaded b (entries_of p.hops.list p.candidates.candidates))) (sym l) ∙ s.1.fit

-- what an address gets is told by the entries of its family
match_only : (a : Address) (E : Entries) → match_in (only a.family E) a ≡ match_in E a
match_only a E = ap (λ (T : Table). lpm T a.bits 0) (of_only a.family E)

-- ---- the route of an event, once its hop has a number
pub plan_route : (C : Candidates) (H : List Address) (elem : Elem) (b : Both) (choice : Choice) (own : Option code_hop.Hop) (route : Route) → IsSound C H true b → IsElem elem → IsChoice C elem choice → IsNewNumber H (hops_after H (elem ∷ [])) own
    → ((after : List Address) (e : Elem) → after ≡ hops_after H (e ∷ []) → IsNewNumber H after own → HasNumber after (option_map addr_as choice.after) → IsRouteOf after choice route)
    → IsRouteOf (hops_after H (elem ∷ [])) choice route
plan_route C H elem b choice own route s x ch fresh turn =
    let H' = hops_after H (elem ∷ []) in
    let has : HasNumber H' (option_map addr_as choice.after) =
    subst (λ (o : Option Address). HasNumber H' o) (sym ch.after) (chosen_has C H elem s.elems s.proper s.candidates s.hops x (chosen_for (after_elem C elem) (elem_prefix elem)) refl)
    in
    turn H' elem refl fresh has

-- ---- what follows of an event that is planned
module _ (w : code_waiting.Waiting) (p : code_parts.Parts) (i : IsWaiting w p) where
  abbrev C : Candidates
  C = p.candidates.candidates

  abbrev H : List Address
  H = p.hops.list

  abbrev elem : Elem
  elem = waiting_elem w

  abbrev H' : List Address
  H' = hops_after H (elem ∷ [])

  abbrev N : Entries
  N = entries_of H' (after_elem C elem)

  pub turn_of_plan : (f : Family) → with_planned (route_in f w.chosen.route) (only f (entries_of H C)) ≡ only f N
  turn_of_plan f = routes_turn C H elem i.sound.elems i.sound.proper i.sound.candidates i.sound.hops (is_elem w.elem) i.choice i.chooses w.chosen.route i.route f

  need_of_plan : needs_put p.limits.sizes.direct w.chosen.route i.before ≡ needs_of p.limits.sizes.direct N
  need_of_plan =
      needs_known p.limits.sizes.direct (with_planned (route_in V4 w.chosen.route) i.before.v4.routes) (with_planned (route_in V6 w.chosen.route) i.before.v6.routes) N (ap (with_planned (route_in V4 w.chosen.route)) i.sound.v4.routes ∙ turn_of_plan V4)
      (ap (with_planned (route_in V6 w.chosen.route)) i.sound.v6.routes ∙ turn_of_plan V6)

  pub fit_of_plan : shortage (sizes_as p.limits.sizes) N ≡ None
  fit_of_plan = ap (first_short (sizes_as p.limits.sizes)) (sym need_of_plan) ∙ i.fits

  same_table : table_of p.tables ≡ table_of i.before
  same_table = ap (λ (L : Entries). L ++ p.tables.v6.entries) i.tables.v4 ∙ ap (λ (L : Entries). i.before.v4.entries ++ L) i.tables.v6

  -- the trees have the routes after the event
  pub tree_of_plan : (f : Family) → (labels_of f p.tables).routes ≡ only f N
  tree_of_plan V4 = i.put.v4 ∙ (ap (with_planned (route_in V4 w.chosen.route)) i.sound.v4.routes ∙ turn_of_plan V4)
  tree_of_plan V6 = i.put.v6 ∙ (ap (with_planned (route_in V6 w.chosen.route)) i.sound.v6.routes ∙ turn_of_plan V6)

  pub family_of_plan : (f : Family) → (labels_of f p.tables).family ≡ f
  family_of_plan V4 = i.tables.v4_family ∙ i.sound.v4.family
  family_of_plan V6 = i.tables.v6_family ∙ i.sound.v6.family

  pub prefix_of_plan : option_map (λ r. prefix_as r.0) w.chosen.route ≡ changed_at C elem
  prefix_of_plan = route_changed C H elem i.sound.elems i.sound.proper i.sound.candidates i.sound.hops (is_elem w.elem) i.choice i.chooses w.chosen.route i.route

  -- it changes what the prefix's addresses get alone
  pub within_plan : (r : code_prefix.Prefix × code_hop.Hop) → w.chosen.route ≡ Some r → AreAlikeOutside (prefix_as r.0) (entries_of H C) N
  within_plan r e a out =
      let E = entries_of H C in
      let t = subst (λ (o : Route). with_planned (route_in a.family o) (only a.family E) ≡ only a.family N) e (turn_of_plan a.family) in
      sym (match_only a E) ∙ (sym (stays (same_family r.0.family a.family)) ∙ (ap (λ (L : Entries). match_in L a) t ∙ match_only a N))
    where
      stays : (b : Bool) → match_in (with_planned (cond b (Some r) None) (only a.family (entries_of H C))) a ≡ match_in (only a.family (entries_of H C)) a
      stays true = routes_outside (prefix_as r.0) r.1.0 (only a.family (entries_of H C)) a (is_prefix r.0) (only_placed a.family (entries_of H C) (routes_placed C H true i.before i.sound)).0 out
      stays false = refl

  pub outside_plan : (q : Prefix) → option_map (λ r. prefix_as r.0) w.chosen.route ≡ Some q → AreAlikeOutside q (entries_of H C) N
  outside_plan q e = by w.chosen.route refl e
    where
      by : (o : Route) → w.chosen.route ≡ o → option_map (λ r. prefix_as r.0) o ≡ Some q → AreAlikeOutside q (entries_of H C) N
      by None is e = absurd (cc)
      by (Some r) is e = subst (λ (x : Prefix). AreAlikeOutside x (entries_of H C) N) (some_same e) (within_plan r is)

  -- once it is made, with these candidates, hops and tables
  module _ (D : Candidates) (G : List Address) (m : Both) (dc : D ≡ after_elem C elem) (gh : G ≡ H') (kr : KeepRoutes p.tables m) (v4 : MadeBy w.fitting.plan.v4 p.tables.v4 m.v4) (v6 : MadeBy w.fitting.plan.v6 p.tables.v6 m.v6) where
    made : IsTaken p.limits.fewest p.limits.every (p.events + 1) C H elem w.chosen.route i.before m w.fitting.plan.v4 w.fitting.plan.v6
    made =
        taken p.limits.fewest p.limits.every (p.events + 1) C H elem i.before p.tables m i.choice w.chosen.route w.fitting.plan.v4 w.fitting.plan.v6 (is_due p.limits.every (p.events + 1)) i.sound (is_elem w.elem) i.few i.chooses i.route i.tables i.put i.told kr v4 v6 refl

    routes : entries_of G D ≡ N
    routes = ap (λ (hs : List Address). entries_of hs D) gh ∙ ap (entries_of H') dc

    pub made_sound : IsSound D G p.is_loaded m × AreKeptNeeds (sizes_as p.limits.sizes) (if_loaded p.is_loaded (entries_of G D)) w.fitting.needs
    made_sound = (
      subst (λ (b : Bool). IsSound D G b m) (sym i.loaded) (subst (λ (X : Candidates). IsSound X G true m) (sym dc) (subst (λ (hs : List Address). IsSound (after_elem C elem) hs true m) (sym gh) made.sound)),
      subst (λ (b : Bool). AreKeptNeeds (sizes_as p.limits.sizes) (if_loaded b (entries_of G D)) w.fitting.needs) (sym i.loaded) (subst (λ (E : Entries). AreKeptNeeds (sizes_as p.limits.sizes) E w.fitting.needs) (sym routes) (record {
        needs = i.needs ∙ need_of_plan;
        fit = fit_of_plan;
      })),
    )

    pub made_takes : (first : ℕ) (moves : Option ℕ) → first ≡ w.fitting.plan.changes.first → moves ≡ option_map (λ r. first) w.chosen.route
        → TakesElem elem (state_in p) (record {
          every = p.limits.every;
          fewest = p.limits.fewest;
          sizes = sizes_as p.limits.sizes;
          candidates = D;
          hops = G;
          table = table_of m;
          loaded = p.is_loaded;
          events = p.events + 1;
          moves = moves;
        })
    made_takes first moves is e = record {
      candidates = dc;
      hops = gh;
      every = refl;
      fewest = refl;
      sizes = refl;
      table =
          made.table
          ∙ (ap (λ (hs : List Address). table_by p.limits.fewest p.limits.every hs (p.events + 1) C (table_of i.before) elem) (sym gh) ∙ ap (λ (t : Entries). table_by p.limits.fewest p.limits.every G (p.events + 1) C t elem) (sym same_table));
      loaded = refl;
      events = refl;
      moves = e ∙ (made.moves first (is ∙ i.first) ∙ ap (λ (t : Entries). option_map (λ q. length (first_changes p.limits.fewest H' C t elem)) (changed_at C elem)) (sym same_table));
    }

    pub made_changes : gathered (moved_of w.fitting.plan.v4) (moved_of w.fitting.plan.v6) ≡ changes_of elem (state_in p)
    made_changes = made.changes ∙ ap (λ (t : Entries). told_of p.limits.fewest false p.limits.every H' (p.events + 1) C t elem) (sym same_table)

    pub made_first : length (both_firsts (moved_of w.fitting.plan.v4) (moved_of w.fitting.plan.v6)) ≡ length (first_of elem (state_in p))
    made_first = ap length made.first ∙ ap (λ (t : Entries). length (first_changes p.limits.fewest H' C t elem)) (sym same_table)

-- ---- an event of which it is known what it chooses
module _ (x : code_elem.Elem) (c : code_chosen.Chosen) (p : code_parts.Parts) (i : IsChosenIn x c p) where
  abbrev AfterIt : Entries
  AfterIt = entries_of (hops_after p.hops.list (elem_as x ∷ [])) (after_elem p.candidates.candidates (elem_as x))

  pub chosen_needs : needs_of_both p.limits.sizes.direct p.tables.v4.routes p.tables.v6.routes ≡ needs_of p.limits.sizes.direct (entries_of p.hops.list p.candidates.candidates)
  chosen_needs = needs_known p.limits.sizes.direct p.tables.v4.routes p.tables.v6.routes (entries_of p.hops.list p.candidates.candidates) i.sound.v4.routes i.sound.v6.routes

  pub chosen_put : needs_put p.limits.sizes.direct c.route p.tables ≡ needs_of p.limits.sizes.direct AfterIt
  chosen_put =
      needs_known p.limits.sizes.direct (with_planned (route_in V4 c.route) p.tables.v4.routes) (with_planned (route_in V6 c.route) p.tables.v6.routes) AfterIt (ap (with_planned (route_in V4 c.route)) i.sound.v4.routes ∙ turn V4)
      (ap (with_planned (route_in V6 c.route)) i.sound.v6.routes ∙ turn V6)
    where
      turn : (f : Family) → with_planned (route_in f c.route) (only f (entries_of p.hops.list p.candidates.candidates)) ≡ only f AfterIt
      turn f = routes_turn p.candidates.candidates p.hops.list (elem_as x) i.sound.elems i.sound.proper i.sound.candidates i.sound.hops (is_elem x) i.choice i.chooses c.route i.route f

  -- it changes no chosen hop, and no snapshot follows it: it is as one whose plan changes nothing
  module _ (e : EventChanges) (none : c.route ≡ None) (due : is_due p.limits.every (p.events + 1) ≡ false) (empty : e.changes.items ≡ []) (zero : e.first ≡ 0) where
    abbrev nothing : Repair
    nothing = record { former = None; cleared = false; reach = None; due = false; fewest = p.limits.fewest; moved = record { repair = e.changes; snapshot = e.changes } }

    abbrev passing : code_waiting.Waiting
    passing = record { elem = x; chosen = record { route = None; own = c.own }; fitting = record { plan = record { v4 = nothing; v6 = nothing; changes = e }; needs = p.needs } }

    waits : IsWaiting passing p
    waits = record {
      loaded = i.loaded;
      before = p.tables;
      sound = i.sound;
      kept = i.kept;
      tables = record { v4_family = refl; v6_family = refl; v4 = refl; v6 = refl };
      put = record { v4 = refl; v6 = refl };
      told = record {
        v4_tells = nothing_told p.tables.v4 p.limits.fewest None (is_due p.limits.every (p.events + 1)) nothing refl due empty empty;
        v6_tells = nothing_told p.tables.v6 p.limits.fewest None (is_due p.limits.every (p.events + 1)) nothing refl due empty empty;
      };
      planned = record {
        v4 = nothing_planned p.tables.v4 nothing refl refl refl empty empty;
        v6 = nothing_planned p.tables.v6 nothing refl refl refl empty empty;
      };
      undone = record { v4 = refl; v6 = refl };
      changes = subst (λ (cs : List code_change.Change). map change_as cs ≡ (map change_as cs ++ map change_as cs) ++ (map change_as cs ++ map change_as cs)) (sym empty) refl;
      first = zero ∙ subst (λ (cs : List code_change.Change). 0 ≡ length (map change_as cs ++ map change_as cs)) (sym empty) refl;
      in_room = i.in_room;
      choice = i.choice;
      chooses = i.chooses;
      route = subst (λ (r : Route). IsRouteOf (hops_after p.hops.list (elem_as x ∷ [])) i.choice r) none i.route;
      own = i.own;
      few = i.few;
      room = i.room;
      counted = i.counted;
      needs = i.kept.needs ∙ sym chosen_needs;
      fits = ap (first_short (sizes_as p.limits.sizes)) chosen_needs ∙ i.kept.fit;
    }

    keeps : KeepRoutes p.tables p.tables
    keeps = record { v4_family = refl; v6_family = refl; v4 = refl; v6 = refl }

    stays_made : (T : Entries) → after_changes (map change_as e.changes.items ++ map change_as e.changes.items) T ≡ Some T
    stays_made T = subst (λ (cs : List code_change.Change). after_changes (map change_as cs ++ map change_as cs) T ≡ Some T) (sym empty) refl

    -- once it is made, with these candidates and hops
    module _ (D : Candidates) (G : List Address) (dc : D ≡ after_elem p.candidates.candidates (elem_as x)) (gh : G ≡ hops_after p.hops.list (elem_as x ∷ [])) where
      pub passed_sound : IsSound D G p.is_loaded p.tables × AreKeptNeeds (sizes_as p.limits.sizes) (if_loaded p.is_loaded (entries_of G D)) p.needs
      passed_sound = made_sound passing p waits D G p.tables dc gh keeps (stays_made p.tables.v4.entries) (stays_made p.tables.v6.entries)

      pub passed_takes : TakesElem (elem_as x) (state_in p) (record {
        every = p.limits.every;
        fewest = p.limits.fewest;
        sizes = sizes_as p.limits.sizes;
        candidates = D;
        hops = G;
        table = table_of p.tables;
        loaded = p.is_loaded;
        events = p.events + 1;
        moves = None;
      })
      passed_takes = made_takes passing p waits D G p.tables dc gh keeps (stays_made p.tables.v4.entries) (stays_made p.tables.v6.entries) e.first None refl refl

      pub passed_changes : map change_as e.changes.items ≡ changes_of (elem_as x) (state_in p)
      passed_changes = waits.changes ∙ made_changes passing p waits D G p.tables dc gh keeps (stays_made p.tables.v4.entries) (stays_made p.tables.v6.entries)

      pub passed_first : e.first ≡ length (first_of (elem_as x) (state_in p))
      passed_first = waits.first ∙ made_first passing p waits D G p.tables dc gh keeps (stays_made p.tables.v4.entries) (stays_made p.tables.v6.entries)

-- ---- the trees
pub tree_routes : (f : Family) (o : Option code_waiting.Waiting) (p : code_parts.Parts) → Waits o p → (labels_of f p.tables).routes ≡ only f (routes_once (option_map waiting_elem o) (state_in p))
tree_routes V4 None p i = i.1.0.v4.routes ∙ ap (λ (b : Bool). only V4 (if_loaded b (entries_of p.hops.list p.candidates.candidates))) i.0
tree_routes V6 None p i = i.1.0.v6.routes ∙ ap (λ (b : Bool). only V6 (if_loaded b (entries_of p.hops.list p.candidates.candidates))) i.0
tree_routes V4 (Some w) p i = tree_of_plan w p i V4
tree_routes V6 (Some w) p i = tree_of_plan w p i V6

pub tree_family : (f : Family) (o : Option code_waiting.Waiting) (p : code_parts.Parts) → Waits o p → (labels_of f p.tables).family ≡ f
tree_family V4 None p i = i.1.0.v4.family
tree_family V6 None p i = i.1.0.v6.family
tree_family V4 (Some w) p i = family_of_plan w p i V4
tree_family V6 (Some w) p i = family_of_plan w p i V6

-- what is kept of the needs, with an event planned or none
pub kept_needs : (o : Option code_waiting.Waiting) (p : code_parts.Parts) → Waits o p → AreKeptNeeds (sizes_as p.limits.sizes) (entries_of p.hops.list p.candidates.candidates) p.needs
kept_needs None p i = subst (λ (b : Bool). AreKeptNeeds (sizes_as p.limits.sizes) (if_loaded b (entries_of p.hops.list p.candidates.candidates)) p.needs) i.0 i.1.1
kept_needs (Some w) p i = i.kept

-- the kept table is in order
pub planned_placed : (w : code_waiting.Waiting) (p : code_parts.Parts) → IsWaiting w p → InPlace (table_of p.tables)
planned_placed w p i = subst (λ (T : Entries). InPlace T) (sym (same_table w p i)) (table_placed p.candidates.candidates p.hops.list true i.before i.sound)

-- a family of which the event changes no route
pub turned_elsewhere : (e : Elem) (old : EngineState) (p : code_planned.Planned) → IsTurn e old p → (f : Family) → route_in f (planned_route p) ≡ None → only f (engine_routes old) ≡ only f (routes_after e old)
turned_elsewhere e old p turn f none = sym (ap (λ (r : Route). with_planned r (only f (engine_routes old))) none) ∙ turn f
