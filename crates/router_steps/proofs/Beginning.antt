-- The next event is begun, or isn't.
use Rattle.std.proofs.Common.{◌≡◌, ℕ, suc, ◌+◌, ◌*◌, ◌^◌, ◌<◌, ◌≤◌, List, [], ◌∷◌, ◌++◌, drop, get_or, map, length, zero, Bool, true, false, Option, Some, None, refl, sym, ap, ◌∙◌, arith, subst, inl, inr}
use Rattle.std.specs.Prelude.{IfErr, IfOk, Result, Ok, Err, is_some, if◌then◌else◌}
use Rattle.table_model.specs.Address.{Prefix, same_family}
use Rattle.table_model.specs.declared.family.Family.{Family}
use Rattle.table_model.specs.declared.family.Family.TheVariants.{V4, V6}
use Rattle.table_model.proofs.SamePrefix.{same_family_itself}
use Rattle.table_model.specs.Entries.{Entries}
use Rattle.route_model.specs.Events.{Elem, elem_prefix}
use Rattle.route_model.specs.Choice.{Candidates, after_elem, after_elems, chosen_for, elems_after}
use Rattle.kept_model.specs.Feed.{hops_after}
use Rattle.kept_model.specs.Kept.{changed_at, is_other}
use Rattle.fib_addr.specs.Answers.{all_answers}
use Rattle.fib_addr.specs.Hops.{most_hops}
use Rattle.fib_prefix.specs.Views.{event_as}
use Rattle.buddy_arena.specs.Space.{Space}
use Rattle.buddy_arena.specs.declared.arena.Full.{Full}
use Rattle.poptrie_build.specs.Tries.{IsTooMuch, leaf_need, node_need}
use Rattle.poptrie_build.specs.declared.node.Node.{Node}
use Rattle.path_copying.specs.Asks.{RunsOut}
use Rattle.path_copying.specs.declared.blocks.Refusal.TheVariants as refusal
use Rattle.poptrie_set.specs.Crowds.{IsStill, sum}
use Rattle.poptrie_set.specs.Lives.{Seen, ShowsIn}
use Rattle.poptrie_set.specs.Past.{PastIn}
use Rattle.poptrie_set.specs.Prepares.{GaveBack, asks_of}
use Rattle.poptrie_set.specs.declared.trie_set.Oldest.{Oldest}
use Rattle.poptrie_update.specs.Cursors.{IsFirst}
use Rattle.poptrie_update.specs.Lives.{Living, Shows, is_pending}
use Rattle.poptrie_update.specs.Prepares.{IsAtRest, IsPinned}
use Rattle.route_tries.specs.Sizes.{Shortage, shortage}
use Rattle.fib_engine.specs.Held.{EngineState, engine_routes}
use Rattle.fib_engine.specs.Numbers.{brought_as, brought_by}
use Rattle.fib_engine.specs.Stands.{routes_after}
use Rattle.fib_router.specs.Lives.{IsReadyFor, Readies, StoresJustBy, live_of}
use Rattle.poptrie_set.specs.declared.trie_set.Oldest.TheVariants as oldest
use Rattle.fib_router.specs.declared.error.NotBegun.TheVariants as error
use Rattle.fib_router.specs.Router.{IsBegunIn, IsPinnedFor, IsRestingFor, Routing, begun_elem, begun_hop}
use Rattle.fib_router.specs.declared.router.Begun.{Begun}
use Rattle.fib_router.proofs.Room.{room_of}
use Rattle.step_script.specs.RowViews.{step_row_as}
use Rattle.step_script.specs.declared.row.Row.{Row}
use Rattle.step_script.specs.Script.{prepares}
use Rattle.step_script.specs.Rows.{busy, nothing, pinned, prepared, printed_number}
use Rattle.step_script.specs.Machine as machine
use Rattle.step_script.specs.Machine.{World, State, HasRoom, HasRoomNext, IsHopsFull, IsTrieFull, MayStore, Prepares, changes_family, words}
use Rattle.router_steps.specs.Calls.{begun_with}
use Rattle.router_steps.specs.Engine.{IsEngineAt}
use Rattle.router_steps.specs.Hops.{arena_family, arena_within}
use Rattle.router_steps.specs.Paused.{IsAt, stores_in}
use Rattle.router_steps.specs.Runs.{HasSeen, IsBegunAs, IsBegunEvent, IsStepper, IsStop, StepLeads, cursors_in, family_live, seen_by}
use Rattle.router_steps.specs.Upcoming.{at_hand, to_come}
use Rattle.router_steps.specs.declared.error.StepError.{StepError}
use Rattle.router_steps.specs.declared.stepper.Stepper.{Stepper}
use Rattle.router_steps.specs.declared.upcoming.Upcoming.{Upcoming}
use Rattle.fib_router.proofs.Alike.{leaf_need_alike, node_need_alike}
use Rattle.router_steps.proofs.Assembled.{by_family, family_in, half_in, put_together, quiet_of, resting_of, stepped}
use Rattle.router_steps.proofs.Changes.{may_store}
use Rattle.router_steps.proofs.Elsewhere.{elsewhere_at}
use Rattle.router_steps.proofs.Numbered.{le_or}
use Rattle.router_steps.proofs.Pinned.{pinned_in}
use Rattle.router_steps.proofs.Ready.{begun_in, shown, still_in}
use Rattle.router_steps.proofs.Seen.{later_seen, least_seen}
use Rattle.router_steps.proofs.Short.{short_of}
use Rattle.router_steps.proofs.Taken.{next_changed, next_later, next_left, next_now, none_full, none_last, over_full, over_last}

-- ---- an event is begun already
busy_of : (w : World) (n : ℕ) (r : Routing) (u : Upcoming) (e : Option Begun) (b : Option machine.Begun) → is_some e ≡ true → IsBegunAs w n r u e b → (m : machine.Begun) × (b ≡ Some m)
busy_of w n r u None b e h = absurd (cc)
busy_of w n r u (Some x) None e h = absurd h
busy_of w n r u (Some x) (Some m) e h = (m, refl)

pub busy_now : (w : World) (s : State) (x : Stepper) → is_some x.begun ≡ true → IsStepper w s x → StepLeads w s prepares busy x
busy_now w s x e h = let b = busy_of w s.ended x.router x.upcoming x.begun s.begun e h.begun in (s, subst (λ (o : Option machine.Begun). Prepares w s o busy s) (sym b.1) (refl, refl), h)

pub none_of : {X : Type 0} (o : Option X) → is_some o ≡ false → o ≡ None
none_of None e = refl
none_of (Some x) e = absurd (cc)

-- ---- the next one is asked for
pub asked : (w : World) (s : State) (x : Stepper) (u : Upcoming) → x.begun ≡ None → to_come u x.router.held.candidates ≡ to_come x.upcoming x.router.held.candidates → IsStepper w s x → IsStepper w s (record x { upcoming = u })
asked w s x u none same h = record {
  v4 = h.v4;
  v6 = h.v6;
  engine = subst (λ (es : List Elem). IsEngineAt w s.ended x.router.held es) (sym same) h.engine;
  ended = h.ended;
  seen = h.seen;
  begun = subst (λ (o : Option Begun). IsBegunAs w s.ended x.router u o s.begun) (sym none) (subst (λ (b : Option machine.Begun). IsBegunAs w s.ended x.router u None b) (sym (quiet_of w s x none h)) (resting_of w s x none h));
}

pub nothing_left : (w : World) (s : State) (x : Stepper) → x.begun ≡ None → to_come x.upcoming x.router.held.candidates ≡ [] → IsStepper w s x → StepLeads w s prepares nothing x
nothing_left w s x none all h = (
  s,
  subst (λ (o : Option machine.Begun). Prepares w s o nothing s) (sym (quiet_of w s x none h)) (none_last w s.ended x.router.held _ h.engine all, none_full w s.ended x.router.held _ h.engine all, refl),
  h,
)

-- ---- it is begun, or isn't
-- what stays in both cases
pub record Tries (who : Oldest) (e : Elem) (r q : Routing) : Type 0 where
  pub held : q.held ≡ r.held
  pub readies : (f : Family) → Readies who (live_of f r.lives) (live_of f q.lives)
  pub other : (f : Family) → ((p : Prefix) → changed_at r.held.candidates e ≡ Some p → same_family p.family f ≡ false) → live_of f q.lives ≡ live_of f r.lives

-- what a begin ensures
pub record Begins (e : Elem) (r q : Routing) (b : Begun) : Type 0 where
  pub begun : IsBegunIn b q
  pub elem : begun_elem b ≡ e
  pub brings : brought_as (begun_hop b) ≡ brought_by r.held.hops e
  pub few : length (hops_after r.held.hops (e ∷ [])) ≤ most_hops
  pub fits : shortage r.held.sizes (routes_after e r.held) ≡ None
  pub ready : (p : Prefix) → changed_at r.held.candidates e ≡ Some p → IsReadyFor (engine_routes r.held) (routes_after e r.held) (live_of p.family q.lives)

-- where nothing is begun
pub record Refuses (r q : Routing) : Type 0 where
  pub rest : q.begun ≡ None
  pub kept : (f : Family) (L M : Entries) → Shows (live_of f r.lives) L M → Shows (live_of f q.lives) L M
  pub quiet : (f : Family) → is_pending (live_of f q.lives) ≡ false

changed_there : (held : Candidates) (e : Elem) (p : Prefix) → changed_at held e ≡ Some p → elem_prefix e ≡ p
changed_there held e p is = by_test (is_other (chosen_for held (elem_prefix e)) (chosen_for (after_elem held e) (elem_prefix e))) is
  where
    by_test : (b : Bool) → (if b then Some (elem_prefix e) else None) ≡ Some p → elem_prefix e ≡ p
    by_test true q = cc
    by_test false q = absurd (cc)

family_is : (f g : Family) → same_family f g ≡ true → f ≡ g
family_is V4 V4 e = refl
family_is V6 V6 e = refl
family_is V4 V6 e = absurd (cc)
family_is V6 V4 e = absurd (cc)

family_apart : (f g : Family) → same_family f g ≡ false → same_family g f ≡ false
family_apart V4 V4 e = absurd (cc)
family_apart V6 V6 e = absurd (cc)
family_apart V4 V6 e = refl
family_apart V6 V4 e = refl

module _ (w : World) (s : State) (x : Stepper) (none : x.begun ≡ None) (h : IsStepper w s x) (e : Elem) (rest : List Elem) (hand : at_hand x.upcoming ≡ e ∷ rest) where
  abbrev r : Routing
  r = x.router

  abbrev n : ℕ
  n = s.ended

  quiet : s.begun ≡ None
  quiet = quiet_of w s x none h

  at : (f : Family) → IsAt w f s (family_live f x)
  at f = half_in w f s x h

  abbrev after : List Elem
  after = rest ++ elems_after (after_elems (after_elem r.held.candidates e) rest) (map event_as x.upcoming.events.now)

  come : to_come x.upcoming r.held.candidates ≡ e ∷ after
  come = ap (λ (es : List Elem). es ++ elems_after (after_elems r.held.candidates es) (map event_as x.upcoming.events.now)) hand

  direct : w.direct ≡ r.held.sizes.direct
  direct = ap (λ (v : World). v.direct) h.engine.world

  nodes : w.nodes ≡ r.held.sizes.nodes
  nodes = ap (λ (v : World). v.nodes) h.engine.world

  leaves : w.leaves ≡ r.held.sizes.leaves
  leaves = ap (λ (v : World). v.leaves) h.engine.world

  same_engine : (q : Routing) → q.held ≡ r.held → IsEngineAt w n q.held (to_come x.upcoming q.held.candidates)
  same_engine q held = subst (λ (k : EngineState). IsEngineAt w n k (to_come x.upcoming k.candidates)) (sym held) h.engine

  -- it brings one hop too many
  pub too_many : most_hops < length (hops_after r.held.hops (e ∷ [])) → IsHopsFull w s
  too_many over = record { quiet = quiet; last = over_last w n r.held _ h.engine e after come over; full = over_full w n r.held _ h.engine e after come over }

  -- it isn't begun
  pub refused : (who : Oldest) → IsFirst who (cursors_in (elem_prefix e).family x) → (q : Routing) → Tries who e r q → Refuses r q → IsStepper w s (stepped x q x.upcoming x.ended None)
  refused who first q k z =
      put_together w s x q x.upcoming x.ended None (λ f. either f (same_family (elem_prefix e).family f) refl) (same_engine q k.held) h.ended h.seen (subst (λ (o : Option machine.Begun). IsBegunAs w n q x.upcoming None o) (sym quiet) z.rest)
    where
      either : (f : Family) (b : Bool) → same_family (elem_prefix e).family f ≡ b → IsAt w f s (family_in f x q.lives)
      either f true same = ((at f).0, still_in w f s (family_live f x) (at f).0 (at f).1 quiet who (live_of f q.lives) (subst (λ (g : Family). IsFirst who (cursors_in g x)) (family_is (elem_prefix e).family f same) first) (k.readies f) (z.quiet f) (z.kept f))
      either f false apart = subst (λ (l : Living). IsAt w f s (record { live = l; cursors = cursors_in f x })) (sym (k.other f (λ p is. ap (λ (y : Prefix). same_family y.family f) (sym (changed_there r.held.candidates e p is)) ∙ apart))) (at f)

  module _ (few : length (hops_after r.held.hops (e ∷ [])) ≤ most_hops) where
    left : n < w.events
    left = next_left w n r.held _ h.engine e after come few

    changed : w.changed n ≡ changed_at r.held.candidates e
    changed = next_changed w n r.held _ h.engine e after come few

    now : w.routes n ≡ engine_routes r.held
    now = next_now w n r.held _ h.engine e after come few

    later : w.routes (suc n) ≡ routes_after e r.held
    later = next_later w n r.held _ h.engine e after come few

    need_as : (f : Family) → (node_need f r.held.sizes.direct (routes_after e r.held) ≡ node_need f w.direct (w.routes (suc n))) × (leaf_need f r.held.sizes.direct (routes_after e r.held) ≡ leaf_need f w.direct (w.routes (suc n)))
    need_as f = (ap (λ (d : ℕ). node_need f d (routes_after e r.held)) (sym direct) ∙ ap (node_need f w.direct) (sym later), ap (λ (d : ℕ). leaf_need f d (routes_after e r.held)) (sym direct) ∙ ap (leaf_need f w.direct) (sym later))

    room_there : (f : Family) → shortage r.held.sizes (routes_after e r.held) ≡ None → HasRoom w f (suc n)
    room_there f fits =
        let v = room_of f r.held.sizes (routes_after e r.held) fits in
        let k = need_as f in
        let a : 2 ^ w.nodes ≡ 2 ^ r.held.sizes.nodes = ap (λ (o : ℕ). 2 ^ o) nodes in
        let b : 2 ^ w.leaves ≡ 2 ^ r.held.sizes.leaves = ap (λ (o : ℕ). 2 ^ o) leaves in
        (omega (arith, v.0, k.0, a), omega (arith, v.1, k.1, b))

    -- a family of which it changes no chosen hop
    apart_changed : (f : Family) → changes_family f (w.changed n) ≡ false → (p : Prefix) → changed_at r.held.candidates e ≡ Some p → same_family p.family f ≡ false
    apart_changed f other p is = let q : changes_family f (w.changed n) ≡ same_family f p.family = ap (changes_family f) (changed ∙ is) in family_apart f p.family (sym q ∙ other)

    family_changed : (f : Family) → changes_family f (w.changed n) ≡ true → (o : Option Prefix) → changed_at r.held.candidates e ≡ o → (p : Prefix) × (changed_at r.held.candidates e ≡ Some p) × (p.family ≡ f)
    family_changed f own None is = let z : changes_family f (w.changed n) ≡ false = ap (changes_family f) (changed ∙ is) in absurd (cc)
    family_changed f own (Some p) is = (p, is, sym (family_is f p.family (sym (ap (changes_family f) (changed ∙ is)) ∙ own)))

    module _ (who : Oldest) (first : IsFirst who (cursors_in (elem_prefix e).family x)) (q : Routing) (k : Tries who e r q) where
      first_in : (f : Family) (p : Prefix) → changed_at r.held.candidates e ≡ Some p → p.family ≡ f → IsFirst who (cursors_in f x)
      first_in f p is fam = subst (λ (g : Family). IsFirst who (cursors_in g x)) (ap (λ (y : Prefix). y.family) (changed_there r.held.candidates e p is) ∙ fam) first

      -- ---- it is begun
      module _ (b : Begun) (g : Begins e r q b) where
        shows_as : (l : Living) → Shows l (engine_routes r.held) (routes_after e r.held) → Shows l (w.routes n) (w.routes (suc n))
        shows_as l sh = subst (λ (E : Entries). Shows l E (w.routes (suc n))) (sym now) (subst (λ (M : Entries). Shows l (engine_routes r.held) M) (sym later) sh)

        event : (m : machine.Begun) → (w.changed n ≡ None → m ≡ record { stores = words []; made = 0 }) → IsBegunEvent w n q x.upcoming b m
        event m idle = record {
          token = g.begun;
          more = rest;
          next = hand ∙ ap (λ (y : Elem). y ∷ rest) (sym g.elem);
          few = subst (λ (y : Elem). length (hops_after q.held.hops (y ∷ [])) ≤ most_hops) (sym g.elem) (subst (λ (v : EngineState). length (hops_after v.hops (e ∷ [])) ≤ most_hops) (sym k.held) g.few);
          brings = g.brings ∙ (ap (λ (v : EngineState). brought_by v.hops e) (sym k.held) ∙ ap (brought_by q.held.hops) (sym g.elem));
          none = idle;
        }

        seen_with : (what : machine.Stores) → HasSeen (begun_with what s)
        seen_with what = later_seen n n s.begun (Some (record { stores = what; made = 0 })) s.lookups (subst (λ (o : Option machine.Begun). seen_by n o ≤ seen_by n (Some (record { stores = what; made = 0 }))) (sym quiet) (least_seen n (Some (record { stores = what; made = 0 })))) h.seen

        -- a family whose trie isn't touched
        untouched : (f : Family) (what : machine.Stores) → changes_family f (w.changed n) ≡ false → IsAt w f (begun_with what s) (family_in f x q.lives)
        untouched f what other =
            subst (λ (l : Living). IsAt w f (begun_with what s) (record { live = l; cursors = cursors_in f x })) (sym (k.other f (apart_changed f other)))
            (elsewhere_at w f s (begun_with what s) (family_live f x) (record { ended = refl; lookups = λ m. refl; begun = λ o. absurd (cc) }) (at f))

        pub begun_now : StepLeads w s prepares prepared (stepped x q x.upcoming x.ended (Some b))
        begun_now = by_change (changed_at r.held.candidates e) refl
          where
            by_change : (o : Option Prefix) → changed_at r.held.candidates e ≡ o → StepLeads w s prepares prepared (stepped x q x.upcoming x.ended (Some b))
            by_change None is =
                let idle : w.changed n ≡ None = changed ∙ is in (
                  begun_with (words []) s,
                  subst (λ (o : Option machine.Begun). Prepares w s o prepared (begun_with (words []) s)) (sym quiet) (left, subst (λ (o : Option Prefix). HasRoomNext w n o) (sym idle) tt, (words [], subst (λ (o : Option Prefix). MayStore w n o (words [])) (sym idle) refl, refl)),
                  put_together w (begun_with (words []) s) x q x.upcoming x.ended (Some b) (λ f. untouched f (words []) (ap (changes_family f) idle)) (same_engine q k.held) h.ended (seen_with (words [])) (event (record { stores = words []; made = 0 }) (λ z. refl)),
                )
            by_change (Some p) is =
                let f = p.family in
                let l = live_of f q.lives in
                let what = stores_in l.state l.selected in
                let some : w.changed n ≡ Some p = changed ∙ is in
                let ready = g.ready p is in
                let own : changes_family f (w.changed n) ≡ true = ap (changes_family f) some ∙ same_family_itself f in
                let sh = shows_as l ready.shows in
                let mine : IsAt w f (begun_with what s) (family_in f x q.lives) = ((at f).0, begun_in w f s (family_live f x) (at f).0 (at f).1 quiet who l own (first_in f p is refl) (k.readies f) ready.pending ready.made sh) in
                let trie = (at f).1.trie in
                let shape = (k.readies f).shape in
                let may = may_store w n f trie.few p refl l (shape.0 ∙ trie.family) (shape.1 ∙ trie.direct) l.state sh (subst (λ (E : Entries). StoresJustBy l.state l E (w.routes (suc n))) (sym now) (subst (λ (M : Entries). StoresJustBy l.state l (engine_routes r.held) M) (sym later) ready.stores)) in (
                  begun_with what s,
                  subst (λ (o : Option machine.Begun). Prepares w s o prepared (begun_with what s)) (sym quiet) (left, subst (λ (o : Option Prefix). HasRoomNext w n o) (sym some) (room_there f g.fits), (what, subst (λ (o : Option Prefix). MayStore w n o what) (sym some) may, refl)),
                  put_together w (begun_with what s) x q x.upcoming x.ended (Some b) (λ v. by_family (IsAt w v (begun_with what s) (family_in v x q.lives)) w v n (λ mine_too. subst (λ (u : Family). IsAt w u (begun_with what s) (family_in u x q.lives)) (sym (family_is v f (sym (ap (changes_family v) some) ∙ mine_too))) mine) (untouched v what)) (same_engine q k.held) h.ended (seen_with what) (event (record { stores = what; made = 0 }) (λ z. absurd (cc))),
                )

      module _ (p : Prefix) (is : changed_at r.held.candidates e ≡ Some p) (rests : IsAtRest (live_of p.family r.lives))
          (nodes_crowded : (s : Seen) (L M : Entries) (ns ls : List ℕ) (since : ℕ) (nodes : Space Node) (leaves : Space ℕ) (e : Full) → IsStill s → ShowsIn s L L → PastIn s ns ls → GaveBack since s nodes leaves → RunsOut nodes.order leaves.order (asks_of s.family s.direct_bits L M) (nodes.free, leaves.free) (refusal.Nodes e) → 2 ^ s.nodes.space.order ≤ 64 * (sum (drop since ns) + node_need s.family s.direct_bits L + node_need s.family s.direct_bits M))
          (leaves_crowded : (s : Seen) (L M : Entries) (ns ls : List ℕ) (since : ℕ) (nodes : Space Node) (leaves : Space ℕ) (e : Full) → IsStill s → ShowsIn s L L → PastIn s ns ls → GaveBack since s nodes leaves → RunsOut nodes.order leaves.order (asks_of s.family s.direct_bits L M) (nodes.free, leaves.free) (refusal.Leaves e) → 2 ^ s.leaves.space.order ≤ 64 * (sum (drop since ls) + leaf_need s.family s.direct_bits L + leaf_need s.family s.direct_bits M)) where
        pinned_as : (need cursor arena : ℕ) (full : Full) → IsPinned who (live_of p.family r.lives) (engine_routes r.held) (routes_after e r.held) need cursor arena full → IsPinned who (live_of p.family r.lives) (w.routes n) (w.routes (suc n)) need cursor arena full
        pinned_as need cursor arena full pin = subst (λ (E : Entries). IsPinned who (live_of p.family r.lives) E (w.routes (suc n)) need cursor arena full) (sym now) (subst (λ (M : Entries). IsPinned who (live_of p.family r.lives) (engine_routes r.held) M need cursor arena full) (sym later) pin)

        pub pinned_row : (need cursor arena : ℕ) (full : Full) → IsPinned who (live_of p.family r.lives) (engine_routes r.held) (routes_after e r.held) need cursor arena full → Refuses r q → StepLeads w s prepares (pinned (printed_number p.family cursor)) (stepped x q x.upcoming x.ended None)
        pinned_row need cursor arena full pin z =
            let f = p.family in
            let own : changes_family f (w.changed n) ≡ true = ap (changes_family f) (changed ∙ is) ∙ same_family_itself f in
            let may = pinned_in w f s (family_live f x) (at f).0 (at f).1 own quiet who (first_in f p is refl) (rests.nodes, rests.leaves) rests.ended (shown w f s (family_live f x) (at f).0 (at f).1 quiet) nodes_crowded leaves_crowded need cursor arena full (pinned_as need cursor arena full pin) in
            (s, subst (λ (o : Option machine.Begun). Prepares w s o (pinned (printed_number f cursor)) s) (sym quiet) (left, (f, cursor, may.0, refl, may.1, refl)), refused who first q k z)

    -- ---- its tries are too large
    -- the other family's need is as it was
    pub too_large : (t : Shortage) → shortage r.held.sizes (routes_after e r.held) ≡ Some t → IsTrieFull w s (arena_family t.arena) (arena_within t.arena) t.need t.have
    too_large t short = by_change (changed_at r.held.candidates e) refl
      where
        fits : shortage r.held.sizes (engine_routes r.held) ≡ None
        fits = h.engine.stands.fits

        room_elsewhere : (g : Family) → changes_family g (w.changed n) ≡ false → (node_need g r.held.sizes.direct (routes_after e r.held) ≤ 2 ^ r.held.sizes.nodes) × (leaf_need g r.held.sizes.direct (routes_after e r.held) ≤ 2 ^ r.held.sizes.leaves)
        room_elsewhere g other =
            let v = room_of g r.held.sizes (engine_routes r.held) fits in
            let same : all_answers g (routes_after e r.held) ≡ all_answers g (engine_routes r.held) = ap (all_answers g) (sym later) ∙ ((at g).1.world.stays n other ∙ ap (all_answers g) now) in
            let a = node_need_alike g r.held.sizes.direct _ _ same in
            let b = leaf_need_alike g r.held.sizes.direct _ _ same in
            (omega (arith, v.0, a), omega (arith, v.1, b))

        apart_of : (g f : Family) → (g ≡ f → ⊥) → same_family g f ≡ false
        apart_of V4 V4 a = absurd (a refl)
        apart_of V6 V6 a = absurd (a refl)
        apart_of V4 V6 a = refl
        apart_of V6 V4 a = refl

        not_same : (g f : Family) (o : Option Prefix) (p : Prefix) → o ≡ Some p → (g ≡ p.family → ⊥) → changes_family g o ≡ false
        not_same g f o p is apart = ap (changes_family g) is ∙ apart_of g p.family apart

        too_much : (arena need have c l a b : ℕ) → c ≤ a → l ≤ b → IsTooMuch arena need have c l a b → ⊥
        too_much arena need have c l a b few some (inl y) = omega (arith, few, y.2, y.3)
        too_much arena need have c l a b few some (inr y) = omega (arith, some, y.3, y.4)

        much_as : (f : Family) → IsTooMuch (arena_within t.arena) t.need t.have (node_need f r.held.sizes.direct (routes_after e r.held)) (leaf_need f r.held.sizes.direct (routes_after e r.held)) (2 ^ r.held.sizes.nodes) (2 ^ r.held.sizes.leaves) → IsTooMuch (arena_within t.arena) t.need t.have (node_need f w.direct (w.routes (suc n))) (leaf_need f w.direct (w.routes (suc n))) (2 ^ w.nodes) (2 ^ w.leaves)
        much_as f y =
            subst (λ (o : ℕ). IsTooMuch (arena_within t.arena) t.need t.have (node_need f w.direct (w.routes (suc n))) (leaf_need f w.direct (w.routes (suc n))) (2 ^ w.nodes) (2 ^ o)) (sym leaves)
            (subst (λ (o : ℕ). IsTooMuch (arena_within t.arena) t.need t.have (node_need f w.direct (w.routes (suc n))) (leaf_need f w.direct (w.routes (suc n))) (2 ^ o) (2 ^ r.held.sizes.leaves)) (sym nodes)
            (subst (λ (c : ℕ). IsTooMuch (arena_within t.arena) t.need t.have (node_need f w.direct (w.routes (suc n))) c (2 ^ r.held.sizes.nodes) (2 ^ r.held.sizes.leaves)) (need_as f).1
            (subst (λ (c : ℕ). IsTooMuch (arena_within t.arena) t.need t.have c (leaf_need f r.held.sizes.direct (routes_after e r.held)) (2 ^ r.held.sizes.nodes) (2 ^ r.held.sizes.leaves)) (need_as f).0 y)))

        by_change : (o : Option Prefix) → changed_at r.held.candidates e ≡ o → IsTrieFull w s (arena_family t.arena) (arena_within t.arena) t.need t.have
        by_change None is =
            let idle : w.changed n ≡ None = changed ∙ is in
            let much = short_of V4 r.held.sizes (routes_after e r.held) t (λ g apart. room_elsewhere g (ap (changes_family g) idle)) short in
            let v = room_elsewhere V4 (ap (changes_family V4) idle) in
            absurd (too_much (arena_within t.arena) t.need t.have _ _ _ _ v.0 v.1 much.1)
        by_change (Some p) is =
            let f = p.family in
            let some : w.changed n ≡ Some p = changed ∙ is in
            let own : changes_family f (w.changed n) ≡ true = ap (changes_family f) some ∙ same_family_itself f in
            let much = short_of f r.held.sizes (routes_after e r.held) t (λ g apart. room_elsewhere g (not_same g f (w.changed n) p some apart)) short in
            subst (λ (g : Family). IsTrieFull w s g (arena_within t.arena) t.need t.have) (sym much.0) (record { quiet = quiet; next = left; family = own; much = much_as f much.1 })

-- ---- as the router says it
pub few_of : (a b : ℕ) → (a < b → ⊥) → b ≤ a
few_of a b never = elim (le_or a b) [
  | inl le ↦ le
  | inr lt ↦ absurd (never lt)
]

pub refused_as : (w : World) (s : State) (x : Stepper) (none : x.begun ≡ None) (h : IsStepper w s x) (e : Elem) (rest : List Elem) (hand : at_hand x.upcoming ≡ e ∷ rest) (who : Oldest) → IsFirst who (cursors_in (elem_prefix e).family x) → (q : Routing) → Tries who e x.router q → Refuses x.router q → IsStepper w s (stepped x q x.upcoming x.ended x.begun)
refused_as w s x none h e rest hand who first q k z = subst (λ (o : Option Begun). IsStepper w s (stepped x q x.upcoming x.ended o)) (sym none) (refused w s x none h e rest hand who first q k z)

get_few : {X : Type 0} (xs : List (Option X)) (n : ℕ) (x : X) → get_or xs n None ≡ Some x → n < length xs
get_few [] n x e = absurd (cc)
get_few (y ∷ xs) zero x e = omega arith
get_few (y ∷ xs) (suc n) x e = let h = get_few xs n x e in omega (arith, h)

-- the number of a lookup that holds what is needed
pub few_cursor : (w : World) (s : State) (x : Stepper) (e : Elem) (who : Oldest) (need cursor arena : ℕ) (largest : Option ℕ) → IsStepper w s x → IsFirst who (cursors_in (elem_prefix e).family x) → IsPinnedFor who e x.router (error.Pinned need cursor arena largest) → cursor < 64
few_cursor w s x e who need cursor arena largest h first v =
    let f = (elem_prefix e).family in
    let pin = v.2.2 in
    let began : IsFirst (oldest.Started cursor pin.0) (cursors_in f x) = subst (λ (o : Oldest). IsFirst o (cursors_in f x)) pin.1 first in
    let many = (half_in w f s x h).1.many in
    omega (arith, get_few (cursors_in f x) cursor began.0.0 began.0.1, many)

pub pinned_told : (w : World) (s : State) (x : Stepper) (none : x.begun ≡ None) (h : IsStepper w s x) (e : Elem) (rest : List Elem) (hand : at_hand x.upcoming ≡ e ∷ rest) (few : length (hops_after x.router.held.hops (e ∷ [])) ≤ most_hops) (who : Oldest) → (first : IsFirst who (cursors_in (elem_prefix e).family x)) → (q : Routing) (k : Tries who e x.router q)
    → ((s : Seen) (L M : Entries) (ns ls : List ℕ) (since : ℕ) (nodes : Space Node) (leaves : Space ℕ) (e : Full) → IsStill s → ShowsIn s L L → PastIn s ns ls → GaveBack since s nodes leaves → RunsOut nodes.order leaves.order (asks_of s.family s.direct_bits L M) (nodes.free, leaves.free) (refusal.Nodes e) → 2 ^ s.nodes.space.order ≤ 64 * (sum (drop since ns) + node_need s.family s.direct_bits L + node_need s.family s.direct_bits M))
    → ((s : Seen) (L M : Entries) (ns ls : List ℕ) (since : ℕ) (nodes : Space Node) (leaves : Space ℕ) (e : Full) → IsStill s → ShowsIn s L L → PastIn s ns ls → GaveBack since s nodes leaves → RunsOut nodes.order leaves.order (asks_of s.family s.direct_bits L M) (nodes.free, leaves.free) (refusal.Leaves e) → 2 ^ s.leaves.space.order ≤ 64 * (sum (drop since ls) + leaf_need s.family s.direct_bits L + leaf_need s.family s.direct_bits M))
    → (need cursor arena number : ℕ) (largest : Option ℕ) (f : Family) → number ≡ printed_number f cursor → f ≡ (elem_prefix e).family → IsPinnedFor who e x.router (error.Pinned need cursor arena largest) → IsRestingFor e x.router (error.Pinned need cursor arena largest) → Refuses x.router q → StepLeads w s prepares (pinned number) (stepped x q x.upcoming x.ended x.begun)
pinned_told w s x none h e rest hand few who first q k nodes leaves need cursor arena number largest f told fam v rests z =
    let p = v.0 in
    let same : number ≡ printed_number p.family cursor = told ∙ (ap (λ (g : Family). printed_number g cursor) fam ∙ ap (λ (y : Prefix). printed_number y.family cursor) (changed_there x.router.held.candidates e p v.1)) in
    subst (λ (o : Option Begun). StepLeads w s prepares (pinned number) (stepped x q x.upcoming x.ended o)) (sym none)
    (subst (λ (c : ℕ). StepLeads w s prepares (pinned c) (stepped x q x.upcoming x.ended None)) (sym same)
    (pinned_row w s x none h e rest hand few who first q k p v.1 (rests p v.1) nodes leaves need cursor arena v.2.0 v.2.2 z))

-- as it is told of the family's arenas
pub full_as : (w : World) (s : State) (f g : Family) (a b need more have most : ℕ) → g ≡ f → b ≡ a → more ≡ need → most ≡ have → IsTrieFull w s f a need have → IsTrieFull w s g b more most
full_as w s f g a b need more have most e i j k z =
    subst (λ (h : Family). IsTrieFull w s h b more most) (sym e) (subst (λ (c : ℕ). IsTrieFull w s f c more most) (sym i) (subst (λ (c : ℕ). IsTrieFull w s f a c most) (sym j) (subst (λ (c : ℕ). IsTrieFull w s f a need c) (sym k) z)))

-- the same from before it was asked for
pub asked_takes : {E : Type 0} (r : Result Row E) (x y z : Stepper) → ((w : World) (s : State) → IsStepper w s x → IsStepper w s y) → IfOk r (λ row. (w : World) (s : State) → IsStepper w s y → StepLeads w s prepares (step_row_as row) z) → IfOk r (λ row. (w : World) (s : State) → IsStepper w s x → StepLeads w s prepares (step_row_as row) z)
asked_takes (Ok row) x y z on h = λ w s i. h w s (on w s i)
asked_takes (Err e) x y z on h = tt

pub asked_stops : {A : Type 0} (r : Result A StepError) (x y z : Stepper) → ((w : World) (s : State) → IsStepper w s x → IsStepper w s y) → IfErr r (λ e. (w : World) (s : State) → IsStepper w s y → IsStop w s e × IsStepper w s z) → IfErr r (λ e. (w : World) (s : State) → IsStepper w s x → IsStop w s e × IsStepper w s z)
asked_stops (Ok a) x y z on h = tt
asked_stops (Err e) x y z on h = λ w s i. h w s (on w s i)
