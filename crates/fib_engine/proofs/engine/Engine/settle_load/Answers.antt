use Rattle.std.proofs.Common.{Bool, refl, true, sym, ap, subst, ◌∙◌}
use Rattle.route_tries.specs.Sizes.{sizes_as}
use Rattle.kept_model.specs.Kept.{kept_at_load}
use Rattle.fib_engine.specs.Held.{AreKeptNeeds, EngineState, IsSound, engine_routes}
use Rattle.fib_engine.specs.Stands.{after_load}
use Rattle.fib_engine.specs.Tables.{AreFilledOf}
use Rattle.fib_engine.proofs.Taking.{filled_of, final_fib, settled_routes, sound_end, table_end, stands_end}
use Rattle.fib_engine.proofs.engine.Engine.settle_load.Goals as goal

pub invariant_of-final_fib : goal.invariant_of-final_fib
invariant_of-final_fib c =
    let t = c.self.inside in
    let C = t.parts.candidates.candidates in
    let H = t.parts.hops.list in
    let s = subst (λ (b : Bool). IsSound C H b t.parts.tables) (ap (λ (e : EngineState). e.loaded) c.self.view_is ∙ c.requires) c.self.invariant.0 in
    let n = c.in_ok-tables-2.tables in
    let a = subst (λ (e : EngineState). AreFilledOf (engine_routes e) n) (sym c.self.view_is) (filled_of (engine_routes c.args.self) c.in_ok-tables.tables n c.in_ok-tables.ensures.tables c.in_ok-tables-2.ensures.routes c.in_ok-tables-2.ensures.v4 c.in_ok-tables-2.ensures.v6) in
    final_fib C H true n refl (sound_end C H t.parts.tables n s a) (sizes_as t.parts.limits.sizes) c.in_ok-tables.needs (subst (λ (e : EngineState). AreKeptNeeds e.sizes (engine_routes e) c.in_ok-tables.needs) (sym c.self.view_is) c.in_ok-tables.ensures.needs)

pub returns-clause-routes : goal.returns-clause-routes
returns-clause-routes c =
    let t = c.self.inside in
    let C = t.parts.candidates.candidates in
    let H = t.parts.hops.list in
    let s = subst (λ (b : Bool). IsSound C H b t.parts.tables) (ap (λ (e : EngineState). e.loaded) c.self.view_is ∙ c.requires) c.self.invariant.0 in
    let n = c.in_ok-tables-2.tables in
    let a = subst (λ (e : EngineState). AreFilledOf (engine_routes e) n) (sym c.self.view_is) (filled_of (engine_routes c.args.self) c.in_ok-tables.tables n c.in_ok-tables.ensures.tables c.in_ok-tables-2.ensures.routes c.in_ok-tables-2.ensures.v4 c.in_ok-tables-2.ensures.v6) in
    settled_routes C H true n refl (sound_end C H t.parts.tables n s a) ∙ ap engine_routes c.self.view_is

pub returns-clause-table : goal.returns-clause-table
returns-clause-table c =
    let t = c.self.inside in
    let C = t.parts.candidates.candidates in
    let H = t.parts.hops.list in
    let s = subst (λ (b : Bool). IsSound C H b t.parts.tables) (ap (λ (e : EngineState). e.loaded) c.self.view_is ∙ c.requires) c.self.invariant.0 in
    let n = c.in_ok-tables-2.tables in
    let a = subst (λ (e : EngineState). AreFilledOf (engine_routes e) n) (sym c.self.view_is) (filled_of (engine_routes c.args.self) c.in_ok-tables.tables n c.in_ok-tables.ensures.tables c.in_ok-tables-2.ensures.routes c.in_ok-tables-2.ensures.v4 c.in_ok-tables-2.ensures.v6) in
    table_end C H t.parts.tables n s a ∙ ap (λ (e : EngineState). kept_at_load e.hops e.candidates) c.self.view_is

pub returns-clause-stands : goal.returns-clause-stands
returns-clause-stands c = λ load st. stands_end load c.args.self (after_load c.args.self) refl refl refl refl refl c.in_ok-tables.ensures.needs.fit st
