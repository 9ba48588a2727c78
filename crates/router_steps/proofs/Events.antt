-- The event that is begun makes a store, ends, or is cancelled.
use Rattle.std.proofs.Common.{◌≡◌, ◌<◌, ◌≤◌, ℕ, suc, List, [], ◌∷◌, ◌++◌, Bool, true, false, cond, map, length, Option, Some, None, refl, sym, ap, ◌∙◌, arith, subst}
use Rattle.table_model.specs.Address.{Prefix}
use Rattle.table_model.proofs.SamePrefix.{same_family_itself}
use Rattle.std.specs.Prelude.{nat_lt}
use Rattle.std.proofs.lemmas.Bool.{lt-ltb}
use Rattle.table_model.specs.declared.family.Family.{Family}
use Rattle.route_model.specs.Events.{Elem}
use Rattle.route_model.specs.Choice.{Candidates, after_elem, after_elems, elems_after}
use Rattle.kept_model.specs.Feed.{hops_after}
use Rattle.fib_addr.specs.Hops.{most_hops}
use Rattle.fib_prefix.specs.Views.{event_as}
use Rattle.poptrie_update.specs.Lives.{Living, is_pending, stores_left}
use Rattle.fib_engine.specs.Held.{EngineState}
use Rattle.fib_engine.specs.Numbers.{brought_as, brought_by}
use Rattle.fib_engine.specs.Stands.{EngineStands, TakesElem}
use Rattle.fib_router.specs.Lives.{GoesBy, IsForgotten, StoresNext, live_of}
use Rattle.fib_router.specs.Router.{IsBegunIn, Routing, begun_elem, begun_hop, stores_left_of, stores_made_in}
use Rattle.fib_router.specs.declared.router.Begun.{Begun}
use Rattle.step_script.specs.Script.{stores, ends, cancels}
use Rattle.step_script.specs.Rows.{stored, nothing, ended, left, cancelled, late}
use Rattle.step_script.specs.Machine as machine
use Rattle.step_script.specs.Machine.{World, State, StoresOne, EndsEvent, Cancels, changes_family, count_of, words}
use Rattle.router_steps.specs.Calls.{ended_with, store_row}
use Rattle.router_steps.specs.Engine.{IsEngineAt}
use Rattle.router_steps.specs.Paused.{IsAt}
use Rattle.router_steps.specs.Runs.{IsBegunAs, IsBegunEvent, IsStepper, StepLeads, family_live, seen_by}
use Rattle.router_steps.specs.Upcoming.{at_hand, to_come}
use Rattle.router_steps.specs.declared.stepper.Stepper.{Stepper}
use Rattle.router_steps.specs.declared.upcoming.Upcoming.{Upcoming}
use Rattle.router_steps.proofs.Assembled.{begun_at, by_family, event_of, family_in, half_in, left_pending, made_pending, none_left, own_of, put_together, quiet_of, stepped, with_begun}
use Rattle.router_steps.proofs.Elsewhere.{elsewhere_at, over_at}
use Rattle.router_steps.proofs.Seen.{later_seen, most_seen}
use Rattle.router_steps.proofs.Steps.{cancelled_in, ended_in, more, stored_in}
use Rattle.router_steps.proofs.Taken.{next_taken}

-- ---- none is begun
pub store_none : (w : World) (s : State) (x : Stepper) → x.begun ≡ None → IsStepper w s x → StepLeads w s stores nothing x
store_none w s x e h = (s, subst (λ (b : Option machine.Begun). StoresOne s b nothing s) (sym (quiet_of w s x e h)) (refl, refl), h)

pub end_none : (w : World) (s : State) (x : Stepper) → x.begun ≡ None → IsStepper w s x → StepLeads w s ends nothing x
end_none w s x e h = (s, subst (λ (b : Option machine.Begun). EndsEvent s b nothing s) (sym (quiet_of w s x e h)) (refl, refl), h)

pub cancel_none : (w : World) (s : State) (x : Stepper) → x.begun ≡ None → IsStepper w s x → StepLeads w s cancels nothing x
cancel_none w s x e h = (s, subst (λ (b : Option machine.Begun). Cancels s b nothing s) (sym (quiet_of w s x e h)) (refl, refl), h)

-- ---- one is
-- what a store ensures
pub record Stores (done : Bool) (b c : Begun) (r q : Routing) : Type 0 where
  pub begun : IsBegunIn c q
  pub elem : begun_elem c ≡ begun_elem b
  pub brings : begun_hop c ≡ begun_hop b
  pub held : q.held ≡ r.held
  pub made : done ≡ true → suc (stores_left_of c q) ≡ stores_left_of b r
  pub none : done ≡ false → (stores_left_of c q ≡ 0) × (q ≡ r)
  pub own : (f : Family) → is_pending (live_of f r.lives) ≡ true → StoresNext done (live_of f r.lives) (live_of f q.lives)
  pub other : (f : Family) → is_pending (live_of f r.lives) ≡ false → live_of f q.lives ≡ live_of f r.lives

-- what an end does
pub record Ends (b : Begun) (r q : Routing) : Type 0 where
  pub rest : q.begun ≡ None
  pub takes : TakesElem (begun_elem b) r.held q.held
  pub stands : (load elems : List Elem) → EngineStands load elems r.held → EngineStands load (elems ++ begun_elem b ∷ []) q.held
  pub own : (f : Family) → is_pending (live_of f r.lives) ≡ true → GoesBy (live_of f r.lives) (live_of f q.lives)
  pub other : (f : Family) → is_pending (live_of f r.lives) ≡ false → live_of f q.lives ≡ live_of f r.lives

-- what a cancel does
pub record Forgets (b : Begun) (r q : Routing) : Type 0 where
  pub rest : q.begun ≡ None
  pub held : q.held ≡ r.held
  pub own : (f : Family) → is_pending (live_of f r.lives) ≡ true → IsForgotten (live_of f r.lives) (live_of f q.lives)
  pub other : (f : Family) → is_pending (live_of f r.lives) ≡ false → live_of f q.lives ≡ live_of f r.lives

module _ (w : World) (s : State) (x : Stepper) (b : Begun) (code : x.begun ≡ Some b) (h : IsStepper w s x) where
  abbrev r : Routing
  r = x.router

  abbrev event : (m : machine.Begun) × (s.begun ≡ Some m) × IsBegunEvent w s.ended x.router x.upcoming b m
  event = event_of w s x b code h

  abbrev m : machine.Begun
  m = event.0

  is : s.begun ≡ Some m
  is = event.1

  at : (f : Family) → IsAt w f s (family_live f x)
  at f = half_in w f s x h

  -- the token is of an event as it was
  same_event : (c : Begun) (q : Routing) (n : machine.Begun) → IsBegunIn c q → begun_elem c ≡ begun_elem b → begun_hop c ≡ begun_hop b → q.held ≡ r.held → (w.changed s.ended ≡ None → n ≡ record { stores = words []; made = 0 }) → IsBegunEvent w s.ended q x.upcoming c n
  same_event c q n token elem brings held none = record {
    token = token;
    more = event.2.more;
    next = event.2.next ∙ ap (λ (e : Elem). e ∷ event.2.more) (sym elem);
    few = subst (λ (e : Elem). length (hops_after q.held.hops (e ∷ [])) ≤ most_hops) (sym elem) (subst (λ (k : EngineState). length (hops_after k.hops (begun_elem b ∷ [])) ≤ most_hops) (sym held) event.2.few);
    brings = ap brought_as brings ∙ (event.2.brings ∙ (ap (λ (k : EngineState). brought_by k.hops (begun_elem b)) (sym held) ∙ ap (brought_by q.held.hops) (sym elem)));
    none = none;
  }

  same_engine : (q : Routing) → q.held ≡ r.held → IsEngineAt w s.ended q.held (to_come x.upcoming q.held.candidates)
  same_engine q held = subst (λ (k : EngineState). IsEngineAt w s.ended k (to_come x.upcoming k.candidates)) (sym held) h.engine

  -- all is as it was
  pub stays : (c : Begun) (q : Routing) → IsBegunIn c q → begun_elem c ≡ begun_elem b → begun_hop c ≡ begun_hop b → q ≡ r → IsStepper w s (stepped x q x.upcoming x.ended (Some c))
  stays c q token elem brings same =
      put_together w s x q x.upcoming x.ended (Some c)
      (λ f. subst (λ (k : Routing). IsAt w f s (family_in f x k.lives)) (sym same) (at f))
      (same_engine q (ap (λ (k : Routing). k.held) same)) h.ended h.seen
      (subst (λ (o : Option machine.Begun). IsBegunAs w s.ended q x.upcoming (Some c) o) (sym is) (same_event c q m token elem brings (ap (λ (k : Routing). k.held) same) event.2.none))

  -- ---- a store
  module _ (c : Begun) (q : Routing) where
    pub stored_none : Stores false b c r q → StepLeads w s stores nothing (stepped x q x.upcoming x.ended (Some c))
    stored_none k =
        let z = k.none refl in (
          s,
          subst (λ (o : Option machine.Begun). StoresOne s o nothing s) (sym is) (none_left w s x m h is event.2.none (λ f waits. ((k.own f waits).none refl).0), refl),
          stays c q k.begun k.elem k.brings z.1,
        )

    module _ (k : Stores true b c r q) where
      abbrev later : State
      later = record s { begun = Some (record m { made = suc m.made }) }

      waits : (f : Family) × (is_pending (live_of f r.lives) ≡ true) × (0 < stores_left (live_of f r.lives))
      waits = left_pending b r event.2.token (omega (arith, k.made refl))

      own : changes_family waits.0 (w.changed s.ended) ≡ true
      own = own_of w waits.0 s (family_live waits.0 x) m is (at waits.0) waits.1

      family_at : (f : Family) → IsAt w f later (family_in f x q.lives)
      family_at f = by_family (IsAt w f later (family_in f x q.lives)) w f s.ended mine others
        where
          mine : changes_family f (w.changed s.ended) ≡ true → IsAt w f later (family_in f x q.lives)
          mine e =
              let u = (begun_at w f s (family_live f x) m is (at f)).0 e in
              let n = k.own f u.pending in
              ((at f).0, stored_in w f s.ended m s.lookups (family_live f x) (at f).0 e (with_begun w f s (family_live f x) m (at f) is) u (live_of f q.lives) (record { shape = n.carries.shape; fits = n.carries.fits }) n.carries.time n.pending (n.made refl).1 n.kept n.shows n.carries.past)

          others : changes_family f (w.changed s.ended) ≡ false → IsAt w f later (family_in f x q.lives)
          others e =
              let quiet = (begun_at w f s (family_live f x) m is (at f)).1 e in
              subst (λ (l : Living). IsAt w f later (record { live = l; cursors = (family_live f x).cursors })) (sym (k.other f quiet)) (elsewhere_at w f s later (family_live f x) (record { ended = refl; lookups = λ n. refl; begun = λ o. absurd (cc) }) (at f))

      pub stored_one : StepLeads w s stores stored (stepped x q x.upcoming x.ended (Some c))
      stored_one =
          let f = waits.0 in
          let u = (begun_at w f s (family_live f x) m is (at f)).0 own in (
            later,
            subst (λ (o : Option machine.Begun). StoresOne s o stored later) (sym is) (more w f s.ended m s.lookups (family_live f x) (at f).0 own (with_begun w f s (family_live f x) m (at f) is) u waits.2, refl),
            put_together w later x q x.upcoming x.ended (Some c) family_at (same_engine q k.held) h.ended
                (later_seen s.ended s.ended s.begun (Some (record m { made = suc m.made })) s.lookups (subst (λ (o : Option machine.Begun). seen_by s.ended o ≤ seen_by s.ended (Some (record m { made = suc m.made }))) (sym is) grows) h.seen)
                (same_event c q (record m { made = suc m.made }) k.begun k.elem k.brings k.held (λ e. let z : changes_family f (w.changed s.ended) ≡ false = ap (changes_family f) e in let y = own in absurd (cc))),
          )
        where
          grows : seen_by s.ended (Some m) ≤ seen_by s.ended (Some (record m { made = suc m.made }))
          grows =
              let all : seen_by s.ended (Some (record m { made = suc m.made })) ≡ suc s.ended = ap (λ (t : Bool). cond t (suc s.ended) s.ended) (lt-ltb 0 (suc m.made) (omega arith)) in
              omega (arith, most_seen s.ended m, all)

  -- ---- the end
  pub ended_not : (c : Begun) (q : Routing) → (c ≡ b) × (q ≡ r) × (0 < stores_left_of b r) → StepLeads w s ends left (stepped x q x.upcoming x.ended (Some c))
  ended_not c q k =
      let p = left_pending b r event.2.token k.2 in
      let f = p.0 in
      let own = own_of w f s (family_live f x) m is (at f) p.1 in
      let u = (begun_at w f s (family_live f x) m is (at f)).0 own in (
        s,
        subst (λ (o : Option machine.Begun). EndsEvent s o left s) (sym is) (more w f s.ended m s.lookups (family_live f x) (at f).0 own (with_begun w f s (family_live f x) m (at f) is) u p.2, refl),
        stays c q (subst (λ (y : Begun). IsBegunIn y q) (sym k.0) (subst (IsBegunIn b) (sym k.1) event.2.token)) (ap begun_elem k.0) (ap begun_hop k.0) k.1,
      )

  pub ended_now : (q : Routing) (u : Upcoming) → Ends b r q → (at_hand x.upcoming ≡ begun_elem b ∷ event.2.more → at_hand u ≡ event.2.more) → u.events ≡ x.upcoming.events → StepLeads w s ends ended (stepped x q u (suc x.ended) None)
  ended_now q u k hand events = (
    ended_with s,
    subst (λ (o : Option machine.Begun). EndsEvent s o ended (ended_with s)) (sym is) (none_left w s x m h is event.2.none (λ f waits. (k.own f waits).all), refl),
    put_together w (ended_with s) x q u (suc x.ended) None family_at engine (ap suc h.ended)
        (later_seen s.ended (suc s.ended) s.begun None s.lookups (subst (λ (o : Option machine.Begun). seen_by s.ended o ≤ suc s.ended) (sym is) (most_seen s.ended m)) h.seen)
        k.rest,
  )
    where
      family_at : (f : Family) → IsAt w f (ended_with s) (family_in f x q.lives)
      family_at f = by_family (IsAt w f (ended_with s) (family_in f x q.lives)) w f s.ended mine others
        where
          mine : changes_family f (w.changed s.ended) ≡ true → IsAt w f (ended_with s) (family_in f x q.lives)
          mine e =
              let v = (begun_at w f s (family_live f x) m is (at f)).0 e in
              let n = k.own f v.pending in
              ((at f).0, ended_in w f s.ended m s.lookups (family_live f x) (at f).0 e (with_begun w f s (family_live f x) m (at f) is) v (live_of f q.lives) (record { shape = n.shape; fits = n.fits }) n.time n.quiet n.shows n.past)

          others : changes_family f (w.changed s.ended) ≡ false → IsAt w f (ended_with s) (family_in f x q.lives)
          others e =
              let quiet = (begun_at w f s (family_live f x) m is (at f)).1 e in
              subst (λ (l : Living). IsAt w f (ended_with s) (record { live = l; cursors = (family_live f x).cursors })) (sym (k.other f quiet)) (over_at w f s (family_live f x) e (at f))

      come : to_come x.upcoming r.held.candidates ≡ begun_elem b ∷ (event.2.more ++ elems_after (after_elems (after_elem r.held.candidates (begun_elem b)) event.2.more) (map event_as x.upcoming.events.now))
      come = ap (λ (es : List Elem). es ++ elems_after (after_elems r.held.candidates es) (map event_as x.upcoming.events.now)) event.2.next

      left_now : to_come u q.held.candidates ≡ event.2.more ++ elems_after (after_elems (after_elem r.held.candidates (begun_elem b)) event.2.more) (map event_as x.upcoming.events.now)
      left_now =
          ap (λ (es : List Elem). es ++ elems_after (after_elems q.held.candidates es) (map event_as u.events.now)) (hand event.2.next)
          ∙ (ap (λ (v : _). event.2.more ++ elems_after (after_elems q.held.candidates event.2.more) (map event_as v.now)) events
          ∙ ap (λ (C : Candidates). event.2.more ++ elems_after (after_elems C event.2.more) (map event_as x.upcoming.events.now)) k.takes.candidates)

      engine : IsEngineAt w (suc s.ended) q.held (to_come u q.held.candidates)
      engine = subst (λ (es : List Elem). IsEngineAt w (suc s.ended) q.held es) (sym left_now) (next_taken w s.ended r.held (to_come x.upcoming r.held.candidates) h.engine (begun_elem b) _ come event.2.few q.held k.takes (k.stands h.engine.load h.engine.done h.engine.stands))

  -- ---- a cancel
  pub cancelled_not : (c : Begun) (q : Routing) → (c ≡ b) × (q ≡ r) × (0 < stores_made_in b r) → StepLeads w s cancels late (stepped x q x.upcoming x.ended (Some c))
  cancelled_not c q k =
      let p = made_pending b r event.2.token k.2 in
      let f = p.0 in
      let own = own_of w f s (family_live f x) m is (at f) p.1 in
      let u = (begun_at w f s (family_live f x) m is (at f)).0 own in (
        s,
        subst (λ (o : Option machine.Begun). Cancels s o late s) (sym is) (omega (arith, p.2, u.made), refl),
        stays c q (subst (λ (y : Begun). IsBegunIn y q) (sym k.0) (subst (IsBegunIn b) (sym k.1) event.2.token)) (ap begun_elem k.0) (ap begun_hop k.0) k.1,
      )

  abbrev before : State
  before = record s { begun = None }

  pub cancelled_now : (q : Routing) → Forgets b r q → StepLeads w s cancels cancelled (stepped x q x.upcoming x.ended None)
  cancelled_now q k = (
    before,
    subst (λ (o : Option machine.Begun). Cancels s o cancelled before) (sym is) (none_made (w.changed s.ended) refl, refl),
    put_together w before x q x.upcoming x.ended None family_at (same_engine q k.held) h.ended
        (later_seen s.ended s.ended s.begun None s.lookups (subst (λ (o : Option machine.Begun). seen_by s.ended o ≤ s.ended) (sym is) (nothing_seen (none_made (w.changed s.ended) refl))) h.seen)
        k.rest,
  )
    where
      none_made : (o : Option Prefix) → w.changed s.ended ≡ o → m.made ≡ 0
      none_made None e = ap (λ (y : machine.Begun). y.made) (event.2.none e)
      none_made (Some p) e =
          let f = p.family in
          let own : changes_family f (w.changed s.ended) ≡ true = ap (changes_family f) e ∙ same_family_itself f in
          let u = (begun_at w f s (family_live f x) m is (at f)).0 own in
          u.made ∙ (k.own f u.pending).none

      nothing_seen : m.made ≡ 0 → seen_by s.ended (Some m) ≤ s.ended
      nothing_seen e = let q : seen_by s.ended (Some m) ≡ s.ended = ap (λ (n : ℕ). cond (nat_lt 0 n) (suc s.ended) s.ended) e in omega (arith, q)

      family_at : (f : Family) → IsAt w f before (family_in f x q.lives)
      family_at f = by_family (IsAt w f before (family_in f x q.lives)) w f s.ended mine others
        where
          mine : changes_family f (w.changed s.ended) ≡ true → IsAt w f before (family_in f x q.lives)
          mine e =
              let v = (begun_at w f s (family_live f x) m is (at f)).0 e in
              let n = k.own f v.pending in
              ((at f).0, cancelled_in w f s.ended m s.lookups (family_live f x) (at f).0 e (with_begun w f s (family_live f x) m (at f) is) v (live_of f q.lives) (record { shape = n.carries.shape; fits = n.carries.fits }) n.carries.time n.quiet n.shows n.carries.past)

          others : changes_family f (w.changed s.ended) ≡ false → IsAt w f before (family_in f x q.lives)
          others e =
              let quiet = (begun_at w f s (family_live f x) m is (at f)).1 e in
              subst (λ (l : Living). IsAt w f before (record { live = l; cursors = (family_live f x).cursors })) (sym (k.other f quiet)) (elsewhere_at w f s before (family_live f x) (record { ended = refl; lookups = λ n. refl; begun = λ o. absurd (cc) }) (at f))

pub stored_by : (w : World) (s : State) (x : Stepper) (b : Begun) (code : x.begun ≡ Some b) (h : IsStepper w s x) (c : Begun) (q : Routing) (done : Bool) → Stores done b c x.router q → StepLeads w s stores (store_row done) (stepped x q x.upcoming x.ended (Some c))
stored_by w s x b code h c q true k = stored_one w s x b code h c q k
stored_by w s x b code h c q false k = stored_none w s x b code h c q k
