use Rattle.std.proofs.Common.{ap, ◌∙◌}
use Rattle.route_tries.specs.Sizes.{sizes_as}
use Rattle.fib_engine.specs.Held.{EngineState, engine_routes}
use Rattle.fib_engine.proofs.Taking.{final_fib, settled_routes}
use Rattle.fib_engine.proofs.engine.Engine.settle.Goals as goal

pub invariant_of-final_fib : goal.invariant_of-final_fib
invariant_of-final_fib c =
    let t = c.self.inside in
    final_fib t.parts.candidates.candidates t.parts.hops.list t.parts.is_loaded t.parts.tables (ap (λ (e : EngineState). e.loaded) c.self.view_is ∙ c.requires) c.self.invariant.0 (sizes_as t.parts.limits.sizes) t.parts.needs c.self.invariant.1

pub returns-clause-routes : goal.returns-clause-routes
returns-clause-routes c =
    let t = c.self.inside in
    settled_routes t.parts.candidates.candidates t.parts.hops.list t.parts.is_loaded t.parts.tables (ap (λ (e : EngineState). e.loaded) c.self.view_is ∙ c.requires) c.self.invariant.0 ∙ ap engine_routes c.self.view_is
