use Rattle.std.proofs.Common.{◌≡◌, Some, sym, ap, subst, ◌∙◌}
use Rattle.std.proofs.lemmas.Result.{err_from_is_err_and}
use Rattle.kept_model.specs.Feed.{entries_of}
use Rattle.route_tries.specs.Sizes.{needs_of, shortage, shortage_as, sizes_as, told_needs}
use Rattle.route_tries.specs.declared.sizes.TrieFull.{TrieFull}
use Rattle.fib_engine.proofs.Needing.{counted, counted_short, needs_known}
use Rattle.fib_engine.proofs.Erring.{err_is, is_full}
use Rattle.fib_engine.specs.Held.{AreKeptNeeds, EngineState, engine_routes}
use Rattle.fib_engine.specs.Tables.{AreOfRoutes}
use Rattle.fib_engine.proofs.engine.Engine.fitting_tables.Goals as goal

pub returns-clause-needs : goal.returns-clause-needs
returns-clause-needs c =
    let t = c.self.inside in
    let a = subst (λ (e : EngineState). AreOfRoutes (engine_routes e) c.in_ok-tables.tables) (sym c.self.view_is) c.in_ok-tables.ensures in
    let z = sizes_as t.parts.limits.sizes in
    let E = entries_of t.parts.hops.list t.parts.candidates.candidates in
    let is : c.needs-needs.result ≡ told_needs (needs_of z.direct E) = c.needs-needs.ensures ∙ ap told_needs (needs_known z.direct c.in_ok-tables.tables.v4.routes c.in_ok-tables.tables.v6.routes E a.v4 a.v6) in
    subst (λ (e : EngineState). AreKeptNeeds e.sizes (engine_routes e) c.needs-needs.result) c.self.view_is (counted z t.parts.limits.sizes.few_nodes t.parts.limits.sizes.few_leaves E c.needs-needs.result is c.in_ok-fit.ensures.ok)

pub returns-in_err-fit-clause-short : goal.returns-in_err-fit-clause-short
returns-in_err-fit-clause-short c = λ full e.
    let t = c.self.inside in
    let a = subst (λ (e : EngineState). AreOfRoutes (engine_routes e) c.in_ok-tables.tables) (sym c.self.view_is) c.in_ok-tables.ensures in
    let z = sizes_as t.parts.limits.sizes in
    let E = entries_of t.parts.hops.list t.parts.candidates.candidates in
    let is : c.needs-needs.result ≡ told_needs (needs_of z.direct E) = c.needs-needs.ensures ∙ ap told_needs (needs_known z.direct c.in_ok-tables.tables.v4.routes c.in_ok-tables.tables.v6.routes E a.v4 a.v6) in
    let p = err_from_is_err_and c.from_residual-in_err-fit.result c.from_residual-in_err-fit.ensures.1 in
    let same = is_full (sym p.2 ∙ err_is (sym p.1 ∙ e)) in
    subst (λ (h : EngineState). shortage h.sizes (engine_routes h) ≡ Some (shortage_as full)) c.self.view_is (counted_short z t.parts.limits.sizes.few_nodes t.parts.limits.sizes.few_leaves E c.needs-needs.result is (shortage_as full) (c.in_err-fit.ensures.short ∙ ap (λ (x : TrieFull). Some (shortage_as x)) same))
