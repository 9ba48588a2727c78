use Rattle.std.proofs.Common.{◌≡◌, ◌<◌, ◌+◌, ◌^◌, Option, Some, None, inl, inr, refl, sym, ap, ◌∙◌, subst}
use Rattle.std.specs.Prelude.{◌⊎◌, option_map}
use Rattle.table_model.specs.Address.{Prefix}
use Rattle.route_model.specs.Events.{Elem}
use Rattle.kept_model.specs.Kept.{changed_at}
use Rattle.fib_addr.specs.Views.{prefix_as}
use Rattle.fib_prefix.specs.Views.{elem_as}
use Rattle.fib_engine.specs.Held.{EngineState}
use Rattle.fib_engine.specs.Staged.{planned_route}
use Rattle.fib_engine.specs.Stands.{routes_after}
use Rattle.table_model.specs.declared.family.Family.{Family}
use Rattle.table_model.specs.Entries.{Entries}
use Rattle.poptrie_update.specs.Lives.{Living, Shows, is_pending}
use Rattle.fib_engine.specs.Held.{engine_routes}
use Rattle.fib_engine.specs.Staged.{routes_once}
use Rattle.fib_router.specs.Lives.{AreLives, IsPrepared, IsReadyFor, IsUnprepared, Readies, live_of}
use Rattle.fib_router.specs.Router.{IsPinnedFor, IsRestingFor, Routing}
use Rattle.fib_router.proofs.Readying.{begun_both}
use Rattle.fib_router.proofs.Routing.{fits_planned, hindered_now, pinned_by, routed_elsewhere, routed_nowhere, still_now, within_now}
use Rattle.fib_router.proofs.Stepping.{each_by, quiet_each, readies_self, resting_by, same_there}
use Rattle.fib_router.proofs.router.Router.begin.Goals as goal

pub prepare-requires-clause-rest : goal.prepare-requires-clause-rest
prepare-requires-clause-rest c =
    let t = c.self.inside in
    let none = ap (λ (r : Routing). r.begun) c.self.view_is ∙ c.requires.rest in
    subst (λ (h : EngineState). AreLives h None t.lives) (sym c.plan.ensures.held) (subst (λ (o : Option Elem). AreLives t.lower.held o t.lives) none c.self.invariant)

pub prepare-requires-clause-planned : goal.prepare-requires-clause-planned
prepare-requires-clause-planned c = λ none. let is : Some (elem_as c.args.elem.now) ≡ None = sym c.in_ok-planned.ensures.planned ∙ none in absurd (cc)

pub prepare-requires-clause-few : goal.prepare-requires-clause-few
prepare-requires-clause-few c = subst (λ (h : EngineState). h.events + 1 < 2 ^ 64) (sym (c.plan.ensures.held ∙ ap (λ (r : Routing). r.held) c.self.view_is)) c.requires.few

pub prepare-requires-clause-within : goal.prepare-requires-clause-within
prepare-requires-clause-within c =
    let t = c.self.inside in
    let at = ap (option_map (λ r. prefix_as r.0)) (sym c.route.ensures ∙ c.in-Some.is) in
    within_now t.lower.held c.plan.new.self (elem_as c.args.elem.now) c.plan.ensures.held c.in_ok-planned.ensures.planned (prefix_as c.in-Some.prefix) (c.in_ok-planned.ensures.within (prefix_as c.in-Some.prefix) at)

pub prepare-requires-clause-elsewhere : goal.prepare-requires-clause-elsewhere
prepare-requires-clause-elsewhere c = λ f apart.
    let t = c.self.inside in
    let route = planned_route c.in_ok-planned.planned in
    still_now t.lower.held c.plan.new.self (elem_as c.args.elem.now) c.plan.ensures.held c.in_ok-planned.ensures.planned c.in_ok-planned.planned c.in_ok-planned.ensures.turn f (routed_elsewhere route (c.in-Some.prefix, c.in-Some._hop) f (sym c.route.ensures ∙ c.in-Some.is) apart)

pub prepare-requires-clause-fits : goal.prepare-requires-clause-fits
prepare-requires-clause-fits c =
    let t = c.self.inside in
    fits_planned t.lower.held c.plan.new.self (elem_as c.args.elem.now) c.plan.ensures.held c.in_ok-planned.ensures.planned c.in_ok-planned.ensures.fits

pub invariant_of-self-in_default : goal.invariant_of-self-in_default
invariant_of-self-in_default c =
    let t = c.self.inside in
    let q = c.plan.new.self in
    let none = ap (λ (r : Routing). r.begun) c.self.view_is ∙ c.requires.rest in
    let rest = subst (λ (h : EngineState). AreLives h None t.lives) (sym c.plan.ensures.held) (subst (λ (o : Option Elem). AreLives t.lower.held o t.lives) none c.self.invariant) in
    let few = subst (λ (h : EngineState). h.events + 1 < 2 ^ 64) (sym (c.plan.ensures.held ∙ ap (λ (r : Routing). r.held) c.self.view_is)) c.requires.few in
    begun_both q.held q.planned t.lives few
    (λ f. still_now t.lower.held q (elem_as c.args.elem.now) c.plan.ensures.held c.in_ok-planned.ensures.planned c.in_ok-planned.planned c.in_ok-planned.ensures.turn f (routed_nowhere (planned_route c.in_ok-planned.planned) f (sym c.route.ensures ∙ c.in_default.is))) rest

pub returns-in-Err-clause-pinned : goal.returns-in-Err-clause-pinned
returns-in-Err-clause-pinned c =
    let t = c.self.inside in
    let e = elem_as c.args.elem.now in
    let at = ap (option_map (λ r. prefix_as r.0)) (sym c.route.ensures ∙ c.in-Some.is) in
    let old : Routing = record { held = t.lower.held; begun = t.lower.planned; lives = t.lives } in
    subst (λ (r : Routing). IsPinnedFor c.args.oldest e r c.in-Err.why) c.self.view_is
    (pinned_by c.args.oldest e old c.in-Err.why (prefix_as c.in-Some.prefix) (sym c.in_ok-planned.ensures.changed ∙ at)
    (hindered_now c.args.oldest c.in-Err.why (live_of c.in-Some.prefix.family t.lives) t.lower.held c.plan.new.self e c.plan.ensures.held c.in_ok-planned.ensures.planned c.in-Err.ensures.hindered))

pub returns-in-Ok-clause-ready : goal.returns-in-Ok-clause-ready
returns-in-Ok-clause-ready c = λ p is.
    let t = c.self.inside in
    let e = elem_as c.args.elem.now in
    let old : Routing = record { held = t.lower.held; begun = t.lower.planned; lives = t.lives } in
    let at = sym c.in_ok-planned.ensures.changed ∙ ap (option_map (λ r. prefix_as r.0)) (sym c.route.ensures ∙ c.in-Some.is) in
    let q = c.plan.new.self in
    let now : changed_at old.held.candidates e ≡ Some p = ap (λ (r : Routing). changed_at r.held.candidates e) c.self.view_is ∙ is in
    let there = same_there e old (prefix_as c.in-Some.prefix) p at now in
    subst (λ (r : Routing). IsReadyFor (engine_routes r.held) (routes_after e r.held) (live_of p.family c.prepare.new.self)) c.self.view_is
    (subst (λ (x : Prefix). IsReadyFor (engine_routes old.held) (routes_after e old.held) (live_of x.family c.prepare.new.self)) (sym there)
    (subst (λ (h : EngineState). IsReadyFor (engine_routes h) (routes_after e h) (live_of c.in-Some.prefix.family c.prepare.new.self)) c.plan.ensures.held
    (subst (λ (o : Option Elem). IsReadyFor (engine_routes q.held) (routes_once o q.held) (live_of c.in-Some.prefix.family c.prepare.new.self)) c.in_ok-planned.ensures.planned c.in-Ok.ensures.ready)))

pub returns-in-Ok-clause-readies : goal.returns-in-Ok-clause-readies
returns-in-Ok-clause-readies c =
    subst (λ (r : Routing). (f : Family) → Readies c.args.oldest (live_of f r.lives) (live_of f c.prepare.new.self)) c.self.view_is
    (each_by (Readies c.args.oldest) (readies_self c.args.oldest) c.in-Some.prefix.family c.self.inside.lives c.prepare.new.self c.prepare.ensures.readies c.prepare.ensures.other)

pub returns-in-Ok-clause-other : goal.returns-in-Ok-clause-other
returns-in-Ok-clause-other c = λ f no.
    let t = c.self.inside in
    let e = elem_as c.args.elem.now in
    let old : Routing = record { held = t.lower.held; begun = t.lower.planned; lives = t.lives } in
    let at = sym c.in_ok-planned.ensures.changed ∙ ap (option_map (λ r. prefix_as r.0)) (sym c.route.ensures ∙ c.in-Some.is) in
    let was = ap (λ (r : Routing). changed_at r.held.candidates e) (sym c.self.view_is) ∙ at in
    c.prepare.ensures.other f (no (prefix_as c.in-Some.prefix) was) ∙ ap (λ (r : Routing). live_of f r.lives) c.self.view_is

pub returns-in-Err-clause-readies : goal.returns-in-Err-clause-readies
returns-in-Err-clause-readies c =
    subst (λ (r : Routing). (f : Family) → Readies c.args.oldest (live_of f r.lives) (live_of f c.prepare.new.self)) c.self.view_is
    (each_by (Readies c.args.oldest) (readies_self c.args.oldest) c.in-Some.prefix.family c.self.inside.lives c.prepare.new.self c.prepare.ensures.readies c.prepare.ensures.other)

pub returns-in-Err-clause-other : goal.returns-in-Err-clause-other
returns-in-Err-clause-other c = λ f no.
    let t = c.self.inside in
    let e = elem_as c.args.elem.now in
    let old : Routing = record { held = t.lower.held; begun = t.lower.planned; lives = t.lives } in
    let at = sym c.in_ok-planned.ensures.changed ∙ ap (option_map (λ r. prefix_as r.0)) (sym c.route.ensures ∙ c.in-Some.is) in
    let was = ap (λ (r : Routing). changed_at r.held.candidates e) (sym c.self.view_is) ∙ at in
    c.prepare.ensures.other f (no (prefix_as c.in-Some.prefix) was) ∙ ap (λ (r : Routing). live_of f r.lives) c.self.view_is

pub returns-in-Err-clause-kept : goal.returns-in-Err-clause-kept
returns-in-Err-clause-kept c =
    subst (λ (r : Routing). (f : Family) (L M : Entries) → Shows (live_of f r.lives) L M → Shows (live_of f c.prepare.new.self) L M) c.self.view_is
    (each_by (λ (l n : Living). (L M : Entries) → Shows l L M → Shows n L M) (λ l L M h. h) c.in-Some.prefix.family c.self.inside.lives c.prepare.new.self c.in-Err.ensures.kept c.prepare.ensures.other)

pub returns-in-Err-clause-quiet : goal.returns-in-Err-clause-quiet
returns-in-Err-clause-quiet c = quiet_each _ c.prepare.new.self c.in-Err.ensures.still

pub returns-in-Err-clause-resting : goal.returns-in-Err-clause-resting
returns-in-Err-clause-resting c =
    let t = c.self.inside in
    let e = elem_as c.args.elem.now in
    let old : Routing = record { held = t.lower.held; begun = t.lower.planned; lives = t.lives } in
    let at = sym c.in_ok-planned.ensures.changed ∙ ap (option_map (λ r. prefix_as r.0)) (sym c.route.ensures ∙ c.in-Some.is) in
    subst (λ (r : Routing). IsRestingFor e r c.in-Err.why) c.self.view_is (resting_by e old c.in-Err.why (prefix_as c.in-Some.prefix) at c.prepare.ensures.resting)

pub returns-in_default-clause-readies : goal.returns-in_default-clause-readies
returns-in_default-clause-readies c =
    let t = c.self.inside in
    subst (λ (r : Routing). (f : Family) → Readies c.args.oldest (live_of f r.lives) (live_of f t.lives)) c.self.view_is (λ f. readies_self c.args.oldest (live_of f t.lives))

pub returns-in-Ok-clause-prepared : goal.returns-in-Ok-clause-prepared
returns-in-Ok-clause-prepared c = λ p is.
    let t = c.self.inside in
    let e = elem_as c.args.elem.now in
    let old : Routing = record { held = t.lower.held; begun = t.lower.planned; lives = t.lives } in
    let at = sym c.in_ok-planned.ensures.changed ∙ ap (option_map (λ r. prefix_as r.0)) (sym c.route.ensures ∙ c.in-Some.is) in
    let q = c.plan.new.self in
    let new = c.prepare.new.self in
    let now : changed_at old.held.candidates e ≡ Some p = ap (λ (r : Routing). changed_at r.held.candidates e) c.self.view_is ∙ is in
    let there = same_there e old (prefix_as c.in-Some.prefix) p at now in
    let f = c.in-Some.prefix.family in (
      ap (λ (x : Prefix). x.family) (sym there),
      subst (λ (r : Routing). IsPrepared c.args.oldest c.in-Ok.pending (live_of p.family r.lives) (live_of p.family new) (engine_routes r.held) (routes_after e r.held)) c.self.view_is
          (subst (λ (x : Prefix). IsPrepared c.args.oldest c.in-Ok.pending (live_of x.family t.lives) (live_of x.family new) (engine_routes old.held) (routes_after e old.held)) (sym there)
          (subst (λ (h : EngineState). IsPrepared c.args.oldest c.in-Ok.pending (live_of f t.lives) (live_of f new) (engine_routes h) (routes_after e h)) c.plan.ensures.held
          (subst (λ (o : Option Elem). IsPrepared c.args.oldest c.in-Ok.pending (live_of f t.lives) (live_of f new) (engine_routes q.held) (routes_once o q.held)) c.in_ok-planned.ensures.planned c.in-Ok.ensures.prepared))),
    )

pub returns-in-Err-clause-unprepared : goal.returns-in-Err-clause-unprepared
returns-in-Err-clause-unprepared c =
    subst (λ (r : Routing). (f : Family) → (live_of f c.prepare.new.self ≡ live_of f r.lives) ⊎ IsUnprepared c.args.oldest (live_of f r.lives) (live_of f c.prepare.new.self)) c.self.view_is
    (each_by (λ (l n : Living). (n ≡ l) ⊎ IsUnprepared c.args.oldest l n) (λ l. inl refl) c.in-Some.prefix.family c.self.inside.lives c.prepare.new.self (inr c.in-Err.ensures.unprepared) c.prepare.ensures.other)

pub returns-in-Ok-clause-idle : goal.returns-in-Ok-clause-idle
returns-in-Ok-clause-idle c = λ f no.
    let t = c.self.inside in
    let e = elem_as c.args.elem.now in
    let old : Routing = record { held = t.lower.held; begun = t.lower.planned; lives = t.lives } in
    let at = sym c.in_ok-planned.ensures.changed ∙ ap (option_map (λ r. prefix_as r.0)) (sym c.route.ensures ∙ c.in-Some.is) in
    let was = ap (λ (r : Routing). changed_at r.held.candidates e) (sym c.self.view_is) ∙ at in
    let none = ap (λ (r : Routing). r.begun) c.self.view_is ∙ c.requires.rest in
    let rest = subst (λ (o : Option Elem). AreLives t.lower.held o t.lives) none c.self.invariant in
    ap is_pending (c.prepare.ensures.other f (no (prefix_as c.in-Some.prefix) was)) ∙ quiet_each t.lower.held t.lives rest f

pub returns-in_default-clause-idle : goal.returns-in_default-clause-idle
returns-in_default-clause-idle c = λ f no.
    let t = c.self.inside in
    let none = ap (λ (r : Routing). r.begun) c.self.view_is ∙ c.requires.rest in
    let rest = subst (λ (o : Option Elem). AreLives t.lower.held o t.lives) none c.self.invariant in
    quiet_each t.lower.held t.lives rest f
