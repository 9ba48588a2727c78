use Rattle.std.proofs.Common.{◌≡◌, None, ap, subst, ◌∙◌}
use Rattle.route_model.specs.Events.{Elem}
use Rattle.kept_model.specs.Kept.{changed_at}
use Rattle.fib_prefix.specs.Views.{elem_as}
use Rattle.smalta_keep.specs.Views.{with_planned}
use Rattle.route_tries.specs.Parts.{AreAlikeOutside}
use Rattle.route_tries.specs.Sizes.{shortage}
use Rattle.fib_engine.specs.Held.{EngineState, engine_routes}
use Rattle.fib_engine.specs.Numbers.{brought_by}
use Rattle.fib_engine.specs.Parts.{state_in}
use Rattle.fib_engine.specs.Staged.{Staging}
use Rattle.fib_engine.specs.Stands.{routes_after}
use Rattle.fib_engine.specs.Tables.{only, route_in}
use Rattle.fib_engine.proofs.Staging.{at_rest, fit_of_plan, outside_plan, prefix_of_plan, still_rests, turn_of_plan}
use Rattle.fib_engine.proofs.staged.Staged.plan.Goals as goal

pub plan-requires-clause-sound : goal.plan-requires-clause-sound
plan-requires-clause-sound c =
    let t = c.self.inside in
    (at_rest t.waiting t.parts (ap (λ (x : Staging). x.planned) c.self.view_is ∙ c.requires.rest) c.self.invariant).1

pub plan-requires-clause-loaded : goal.plan-requires-clause-loaded
plan-requires-clause-loaded c =
    let t = c.self.inside in
    (at_rest t.waiting t.parts (ap (λ (x : Staging). x.planned) c.self.view_is ∙ c.requires.rest) c.self.invariant).0

pub invariant_of-self : goal.invariant_of-self
invariant_of-self c =
    let t = c.self.inside in
    let none = ap (λ (x : Staging). x.planned) c.self.view_is ∙ c.requires.rest in
    still_rests t.waiting c.plan.new.self none (ap (λ (h : EngineState). h.loaded) c.plan.ensures.seen ∙ (at_rest t.waiting t.parts none c.self.invariant).0) c.in_err-waiting.ensures.err

pub returns-clause-turn : goal.returns-clause-turn
returns-clause-turn c = λ f.
    let w = c.in_ok-waiting.waiting in
    let q = c.plan.new.self in
    let e = c.in_ok-waiting.ensures.elem in
    let same = c.plan.ensures.seen ∙ ap (λ (s : Staging). s.held) c.self.view_is in
    let first = turn_of_plan w q c.in_ok-waiting.ensures.waiting f in
    let second = subst (λ (x : Elem). with_planned (route_in f w.chosen.route) (only f (engine_routes (state_in q))) ≡ only f (routes_after x (state_in q))) e first in
    subst (λ (h : EngineState). with_planned (route_in f w.chosen.route) (only f (engine_routes h)) ≡ only f (routes_after (elem_as c.args.elem.now) h)) same second

pub returns-clause-changed : goal.returns-clause-changed
returns-clause-changed c =
    let w = c.in_ok-waiting.waiting in
    let q = c.plan.new.self in
    let same = c.plan.ensures.seen ∙ ap (λ (s : Staging). s.held) c.self.view_is in
    prefix_of_plan w q c.in_ok-waiting.ensures.waiting ∙ (ap (changed_at q.candidates.candidates) c.in_ok-waiting.ensures.elem ∙ ap (λ (h : EngineState). changed_at h.candidates (elem_as c.args.elem.now)) same)

pub returns-clause-within : goal.returns-clause-within
returns-clause-within c = λ p is.
    let w = c.in_ok-waiting.waiting in
    let q = c.plan.new.self in
    let e = c.in_ok-waiting.ensures.elem in
    let same = c.plan.ensures.seen ∙ ap (λ (s : Staging). s.held) c.self.view_is in
    let second = subst (λ (x : Elem). AreAlikeOutside p (engine_routes (state_in q)) (routes_after x (state_in q))) e (outside_plan w q c.in_ok-waiting.ensures.waiting p is) in
    subst (λ (h : EngineState). AreAlikeOutside p (engine_routes h) (routes_after (elem_as c.args.elem.now) h)) same second

pub returns-clause-fits : goal.returns-clause-fits
returns-clause-fits c =
    let w = c.in_ok-waiting.waiting in
    let q = c.plan.new.self in
    let e = c.in_ok-waiting.ensures.elem in
    let same = c.plan.ensures.seen ∙ ap (λ (s : Staging). s.held) c.self.view_is in
    let second = subst (λ (x : Elem). shortage (state_in q).sizes (routes_after x (state_in q)) ≡ None) e (fit_of_plan w q c.in_ok-waiting.ensures.waiting) in
    subst (λ (h : EngineState). shortage h.sizes (routes_after (elem_as c.args.elem.now) h) ≡ None) same second

pub returns-clause-brings : goal.returns-clause-brings
returns-clause-brings c =
    let q = c.plan.new.self in
    let same = c.plan.ensures.seen ∙ ap (λ (s : Staging). s.held) c.self.view_is in
    c.number_brought.ensures ∙ (ap (λ (x : Elem). brought_by q.hops.list x) c.in_ok-waiting.ensures.elem ∙ ap (λ (h : EngineState). brought_by h.hops (elem_as c.args.elem.now)) same)
