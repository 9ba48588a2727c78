use Rattle.std.proofs.Common.{sym, subst}
use Rattle.route_tries.specs.Sizes.{AreFew, sizes_as}
use Rattle.route_tries.specs.declared.needs.FamilyNeeds.{FamilyNeeds}
use Rattle.route_tries.proofs.Short.{fit_few}
use Rattle.fib_engine.specs.Tables.{needs_in}
use Rattle.fib_engine.proofs.fitting.plan_fitting.Goals as goal

pub plan_route-requires-clause-few : goal.plan_route-requires-clause-few
plan_route-requires-clause-few c =
    subst (λ (n : FamilyNeeds). AreFew n) (sym c.requires.needs) (fit_few (sizes_as c.args.sizes.now) c.args.sizes.now.few_nodes c.args.sizes.now.few_leaves (needs_in c.args.sizes.now.direct c.args.tables.now) c.requires.fits)
