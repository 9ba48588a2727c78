-- A stepper put together, and what is begun in it.
use Rattle.std.proofs.Common.{◌≡◌, ◌<◌, ◌≤◌, ℕ, suc, ◌+◌, [], Bool, true, false, Option, Some, None, refl, sym, ap, ◌∙◌, subst, arith}
use Rattle.table_model.specs.Address.{Prefix}
use Rattle.table_model.specs.declared.family.Family.{Family}
use Rattle.table_model.specs.declared.family.Family.TheVariants.{V4, V6}
use Rattle.table_model.proofs.SamePrefix.{same_family_itself}
use Rattle.poptrie_update.specs.Lives.{is_pending, made_of, stores_left}
use Rattle.poptrie_update.specs.declared.pending.Pending.{Pending}
use Rattle.fib_router.specs.Lives.{live_of}
use Rattle.fib_router.specs.Router.{IsBegunIn, IsPendingIn, Routing, stores_left_by, stores_left_of, stores_made_by, stores_made_in}
use Rattle.fib_router.specs.declared.lives.Lives as code_lives
use Rattle.fib_router.specs.declared.router.Begun as code_begun
use Rattle.fib_router.proofs.Through.{is_waiting}
use Rattle.step_script.specs.Script.{Step}
use Rattle.step_script.specs.Rows.{StepRow}
use Rattle.step_script.specs.Machine as machine
use Rattle.step_script.specs.Machine.{World, State, changes_family, count_of, words}
use Rattle.router_steps.specs.Engine.{IsEngineAt}
use Rattle.router_steps.specs.Paused.{FamilyLive, IsAt, IsBegun, IsFamilyState, IsUnderWay}
use Rattle.router_steps.specs.Runs.{HasSeen, IsBegunAs, IsBegunEvent, IsStepper, StepLeads, cursors_in, family_live}
use Rattle.router_steps.specs.Upcoming.{to_come}
use Rattle.router_steps.specs.declared.stepper.Stepper.{Stepper}
use Rattle.router_steps.specs.declared.upcoming.Upcoming.{Upcoming}
use Rattle.router_steps.proofs.Steps.{no_more}

-- ---- put together
-- a stepper after a step of the event
abbrev pub stepped : Stepper → Routing → Upcoming → ℕ → Option code_begun.Begun → Stepper
stepped x r u n b = record x { router = r; upcoming = u; ended = n; begun = b }

-- a family's live trie then, with its lookups
abbrev pub family_in : Family → Stepper → code_lives.Lives → FamilyLive
family_in f x t = record { live = live_of f t; cursors = cursors_in f x }

pub half_in : (w : World) (f : Family) (s : State) (x : Stepper) → IsStepper w s x → IsAt w f s (family_live f x)
half_in w V4 s x h = h.v4
half_in w V6 s x h = h.v6

pub put_together : (w : World) (t : State) (x : Stepper) (r : Routing) (u : Upcoming) (n : ℕ) (b : Option code_begun.Begun) → ((f : Family) → IsAt w f t (family_in f x r.lives)) → IsEngineAt w t.ended r.held (to_come u r.held.candidates) → n ≡ t.ended → HasSeen t → IsBegunAs w t.ended r u b t.begun → IsStepper w t (stepped x r u n b)
put_together w t x r u n b halves engine ended seen begun = record { v4 = halves V4; v6 = halves V6; engine = engine; ended = ended; seen = seen; begun = begun }

-- ---- what is begun
quiet_in : (w : World) (n : ℕ) (r : Routing) (u : Upcoming) (e : Option code_begun.Begun) (b : Option machine.Begun) → e ≡ None → IsBegunAs w n r u e b → b ≡ None
quiet_in w n r u None None e h = refl
quiet_in w n r u None (Some b) e h = absurd h
quiet_in w n r u (Some x) b e h = absurd (cc)

pub quiet_of : (w : World) (s : State) (x : Stepper) → x.begun ≡ None → IsStepper w s x → s.begun ≡ None
quiet_of w s x e h = quiet_in w s.ended x.router x.upcoming x.begun s.begun e h.begun

resting_in : (w : World) (n : ℕ) (r : Routing) (u : Upcoming) (e : Option code_begun.Begun) (b : Option machine.Begun) → e ≡ None → IsBegunAs w n r u e b → r.begun ≡ None
resting_in w n r u None None e h = h
resting_in w n r u None (Some b) e h = absurd h
resting_in w n r u (Some x) b e h = absurd (cc)

pub resting_of : (w : World) (s : State) (x : Stepper) → x.begun ≡ None → IsStepper w s x → x.router.begun ≡ None
resting_of w s x e h = resting_in w s.ended x.router x.upcoming x.begun s.begun e h.begun

event_in : (w : World) (n : ℕ) (r : Routing) (u : Upcoming) (e : code_begun.Begun) (o : Option code_begun.Begun) (b : Option machine.Begun) → o ≡ Some e → IsBegunAs w n r u o b → (m : machine.Begun) × (b ≡ Some m) × IsBegunEvent w n r u e m
event_in w n r u e None b is h = absurd (cc)
event_in w n r u e (Some x) None is h = absurd h
event_in w n r u e (Some x) (Some m) is h = let q : x ≡ e = cc in (m, refl, subst (λ (y : code_begun.Begun). IsBegunEvent w n r u y m) q h)

pub event_of : (w : World) (s : State) (x : Stepper) (e : code_begun.Begun) → x.begun ≡ Some e → IsStepper w s x → (m : machine.Begun) × (s.begun ≡ Some m) × IsBegunEvent w s.ended x.router x.upcoming e m
event_of w s x e is h = event_in w s.ended x.router x.upcoming e x.begun s.begun is h.begun

-- ---- the family of its update
-- it has stores left or made, so an update of a family is pending
pending_by : (o : Option (Family × Pending)) (t : code_lives.Lives) → IsPendingIn o t → (o ≡ None → ⊥) → (f : Family) × (is_pending (live_of f t) ≡ true) × (stores_left_by o t ≡ stores_left (live_of f t)) × (stores_made_by o t ≡ made_of (live_of f t))
pending_by None t p some = absurd (some refl)
pending_by (Some (V4, k)) t p some = (V4, is_waiting k t.v4 p.0, refl, refl)
pending_by (Some (V6, k)) t p some = (V6, is_waiting k t.v6 p.0, refl, refl)

pub left_pending : (b : code_begun.Begun) (r : Routing) → IsBegunIn b r → 0 < stores_left_of b r → (f : Family) × (is_pending (live_of f r.lives) ≡ true) × (0 < stores_left (live_of f r.lives))
left_pending b r i l =
    let p = pending_by b.pending r.lives i.pending (λ e. let z : stores_left_by b.pending r.lives ≡ 0 = ap (λ (o : Option (Family × Pending)). stores_left_by o r.lives) e in absurd (omega (arith, l, z))) in
    (p.0, p.1, omega (arith, l, p.2))

pub made_pending : (b : code_begun.Begun) (r : Routing) → IsBegunIn b r → 0 < stores_made_in b r → (f : Family) × (is_pending (live_of f r.lives) ≡ true) × (0 < made_of (live_of f r.lives))
made_pending b r i l =
    let p = pending_by b.pending r.lives i.pending (λ e. let z : stores_made_by b.pending r.lives ≡ 0 = ap (λ (o : Option (Family × Pending)). stores_made_by o r.lives) e in absurd (omega (arith, l, z))) in
    (p.0, p.1, omega (arith, l, p.3))

-- ---- what is begun, in a family
pub begun_at : (w : World) (f : Family) (s : State) (p : FamilyLive) (m : machine.Begun) → s.begun ≡ Some m → IsAt w f s p → (changes_family f (w.changed s.ended) ≡ true → IsUnderWay p.live m) × (changes_family f (w.changed s.ended) ≡ false → is_pending p.live ≡ false)
begun_at w f s p m is at = subst (λ (o : Option machine.Begun). IsBegun w f s.ended p.live o) is at.1.trie.begun

-- where an update is pending, the event is of the family
pub own_of : (w : World) (f : Family) (s : State) (p : FamilyLive) (m : machine.Begun) → s.begun ≡ Some m → IsAt w f s p → is_pending p.live ≡ true → changes_family f (w.changed s.ended) ≡ true
own_of w f s p m is at waits = by_test (changes_family f (w.changed s.ended)) refl
  where
    by_test : (b : Bool) → changes_family f (w.changed s.ended) ≡ b → b ≡ true
    by_test true e = refl
    by_test false e = let z : is_pending p.live ≡ false = (begun_at w f s p m is at).1 e in absurd (cc)

-- with it at hand
pub with_begun : (w : World) (f : Family) (s : State) (p : FamilyLive) (m : machine.Begun) (at : IsAt w f s p) → s.begun ≡ Some m → IsFamilyState w f (record { ended = s.ended; begun = Some m; lookups = s.lookups }) p at.0
with_begun w f s p m at is = subst (λ (b : Option machine.Begun). IsFamilyState w f (record { ended = s.ended; begun = b; lookups = s.lookups }) p at.0) is at.1

-- a family's trie, where the event is of the family, and where it isn't
pub by_family : (P : Type 0) (w : World) (f : Family) (n : ℕ) → (changes_family f (w.changed n) ≡ true → P) → (changes_family f (w.changed n) ≡ false → P) → P
by_family P w f n own other = by_test (changes_family f (w.changed n)) refl
  where
    by_test : (b : Bool) → changes_family f (w.changed n) ≡ b → P
    by_test true e = own e
    by_test false e = other e

-- no store is left, as no family's update has one
pub none_left : (w : World) (s : State) (x : Stepper) (m : machine.Begun) → IsStepper w s x → s.begun ≡ Some m → (w.changed s.ended ≡ None → m ≡ record { stores = words []; made = 0 }) → ((f : Family) → is_pending (live_of f x.router.lives) ≡ true → stores_left (live_of f x.router.lives) ≡ 0) → count_of m.stores ≤ m.made
none_left w s x m h is none left = by_change (w.changed s.ended) refl
  where
    by_change : (o : Option Prefix) → w.changed s.ended ≡ o → count_of m.stores ≤ m.made
    by_change None e = let q = none e in subst (λ (b : machine.Begun). count_of b.stores ≤ b.made) (sym q) (omega arith)
    by_change (Some p) e =
        let f = p.family in
        let own : changes_family f (w.changed s.ended) ≡ true = ap (changes_family f) e ∙ same_family_itself f in
        let at = half_in w f s x h in
        let u = (begun_at w f s (family_live f x) m is at).0 own in
        no_more w f s.ended m s.lookups (family_live f x) at.0 own (with_begun w f s (family_live f x) m at is) u (left f u.pending)

-- ---- told in other words
pub leads_as : (w : World) (s : State) (step : Step) (row due : StepRow) (x y : Stepper) → row ≡ due → x ≡ y → StepLeads w s step due y → StepLeads w s step row x
leads_as w s step row due x y e is l = subst (λ (r : StepRow). StepLeads w s step r x) (sym e) (subst (StepLeads w s step due) (sym is) l)

-- one more has ended
pub as_counted : (x : Stepper) (r : Routing) (u : Upcoming) (e : Option code_begun.Begun) → e ≡ None → stepped x r u (x.ended + 1) e ≡ stepped x r u (suc x.ended) None
as_counted x r u e is = ap (stepped x r u (x.ended + 1)) is ∙ ap (λ (n : ℕ). stepped x r u n None) (up x.ended)
  where
    up : (n : ℕ) → n + 1 ≡ suc n
    up n = omega arith

-- this is begun
pub as_begun : (x : Stepper) (r : Routing) (u : Upcoming) (n : ℕ) (e d : Option code_begun.Begun) → e ≡ d → stepped x r u n e ≡ stepped x r u n d
as_begun x r u n e d is = ap (stepped x r u n) is
