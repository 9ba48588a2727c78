use Rattle.std.proofs.Common.{ap, subst, sym, ◌∙◌}
use Rattle.route_tries.specs.Sizes.{AreFew, needs_of, sizes_as}
use Rattle.route_tries.specs.declared.needs.FamilyNeeds.{FamilyNeeds}
use Rattle.route_tries.proofs.Short.{fit_few}
use Rattle.fib_engine.specs.FinalFib.{Rests}
use Rattle.fib_engine.specs.Tables.{both_routes}
use Rattle.fib_engine.proofs.final_fib.FinalFib.needs.Goals as goal

pub returns-clause-needs : goal.returns-clause-needs
returns-clause-needs c = c.self.invariant.needs.needs ∙ ap (λ (r : Rests). needs_of r.sizes.direct r.routes) c.self.view_is

pub returns-clause-few : goal.returns-clause-few
returns-clause-few c =
    let t = c.self.inside in
    subst (λ (m : FamilyNeeds). AreFew m) (sym c.self.invariant.needs.needs) (fit_few (sizes_as t.sizes) t.sizes.few_nodes t.sizes.few_leaves (needs_of t.sizes.direct (both_routes t.tables)) c.self.invariant.needs.fit)
