use Rattle.std.proofs.Common.{ap, subst, ◌∙◌}
use Rattle.route_tries.specs.Sizes.{AreFew, sizes_as, needs_of}
use Rattle.route_tries.specs.declared.needs.FamilyNeeds.{FamilyNeeds}
use Rattle.route_tries.proofs.Short.{fit_few}
use Rattle.fib_engine.specs.Held.{EngineState, if_loaded, routes_told}
use Rattle.kept_model.specs.Feed.{entries_of}
use Rattle.std.proofs.Common.{sym}
use Rattle.fib_engine.proofs.engine.Engine.needs.Goals as goal

pub returns-clause-needs : goal.returns-clause-needs
returns-clause-needs c = c.self.invariant.1.needs ∙ ap (λ (h : EngineState). needs_of h.sizes.direct (routes_told h)) c.self.view_is

pub returns-clause-few : goal.returns-clause-few
returns-clause-few c =
    let t = c.self.inside in
    let n = needs_of t.parts.limits.sizes.direct (if_loaded t.parts.is_loaded (entries_of t.parts.hops.list t.parts.candidates.candidates)) in
    subst (λ (m : FamilyNeeds). AreFew m) (sym c.self.invariant.1.needs) (fit_few (sizes_as t.parts.limits.sizes) t.parts.limits.sizes.few_nodes t.parts.limits.sizes.few_leaves n c.self.invariant.1.fit)
