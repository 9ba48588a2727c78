use Rattle.std.proofs.Common.{◌≡◌, None, ap, subst, sym, ◌∙◌}
use Rattle.kept_model.specs.Feed.{entries_of}
use Rattle.route_tries.specs.Sizes.{AreFew, needs_of, shortage, sizes_as}
use Rattle.route_tries.specs.declared.needs.FamilyNeeds.{FamilyNeeds}
use Rattle.route_tries.proofs.Short.{fit_few}
use Rattle.fib_engine.specs.Held.{engine_routes}
use Rattle.fib_engine.specs.Staged.{Staging}
use Rattle.fib_engine.proofs.Staging.{kept_needs}
use Rattle.fib_engine.proofs.staged.Staged.needs.Goals as goal

pub returns-clause-needs : goal.returns-clause-needs
returns-clause-needs c =
    let t = c.self.inside in
    (kept_needs t.waiting t.parts c.self.invariant).needs ∙ ap (λ (s : Staging). needs_of s.held.sizes.direct (engine_routes s.held)) c.self.view_is

pub returns-clause-few : goal.returns-clause-few
returns-clause-few c =
    let t = c.self.inside in
    let z = t.parts.limits.sizes in
    let k = kept_needs t.waiting t.parts c.self.invariant in
    subst (λ (m : FamilyNeeds). AreFew m) (sym k.needs) (fit_few (sizes_as z) z.few_nodes z.few_leaves (needs_of z.direct (entries_of t.parts.hops.list t.parts.candidates.candidates)) k.fit)

pub returns-clause-fits : goal.returns-clause-fits
returns-clause-fits c =
    let t = c.self.inside in
    subst (λ (s : Staging). shortage s.held.sizes (engine_routes s.held) ≡ None) c.self.view_is (kept_needs t.waiting t.parts c.self.invariant).fit
