use Rattle.std.proofs.Common.{Bool, refl, true, sym, ap, subst, ◌∙◌}
use Rattle.route_tries.specs.Sizes.{sizes_as}
use Rattle.kept_model.specs.Kept.{kept_at_load}
use Rattle.fib_engine.specs.Held.{AreKeptNeeds, EngineState, IsSound, engine_routes}
use Rattle.fib_engine.specs.Tables.{AreFilledOf, table_of}
use Rattle.fib_engine.proofs.Taking.{sound_end, table_end, stands_end}
use Rattle.fib_engine.proofs.engine.Engine.end_load.Goals as goal

pub invariant_of-self : goal.invariant_of-self
invariant_of-self c =
    let t = c.self.inside in
    let s = subst (λ (b : Bool). IsSound t.parts.candidates.candidates t.parts.hops.list b t.parts.tables) (ap (λ (e : EngineState). e.loaded) c.self.view_is ∙ c.requires.load) c.self.invariant.0 in
    let a = subst (λ (e : EngineState). AreFilledOf (engine_routes e) c.args.tables) (sym c.self.view_is) c.requires.tables in
    (sound_end t.parts.candidates.candidates t.parts.hops.list t.parts.tables c.args.tables s a, subst (λ (e : EngineState). AreKeptNeeds e.sizes (engine_routes e) c.args.needs) (sym c.self.view_is) c.requires.needs)

pub returns-clause-fits : goal.returns-clause-fits
returns-clause-fits c = (subst (λ (e : EngineState). AreKeptNeeds e.sizes (engine_routes e) c.args.needs) (sym c.self.view_is) c.requires.needs).fit

pub returns-clause-ends : goal.returns-clause-ends
returns-clause-ends c =
    let t = c.self.inside in
    let s = subst (λ (b : Bool). IsSound t.parts.candidates.candidates t.parts.hops.list b t.parts.tables) (ap (λ (e : EngineState). e.loaded) c.self.view_is ∙ c.requires.load) c.self.invariant.0 in
    let a = subst (λ (e : EngineState). AreFilledOf (engine_routes e) c.args.tables) (sym c.self.view_is) c.requires.tables in
    let there = table_end t.parts.candidates.candidates t.parts.hops.list t.parts.tables c.args.tables s a in
    record {
      candidates = ap (λ (e : EngineState). e.candidates) c.self.view_is;
      hops = ap (λ (e : EngineState). e.hops) c.self.view_is;
      every = ap (λ (e : EngineState). e.every) c.self.view_is;
      fewest = ap (λ (e : EngineState). e.fewest) c.self.view_is;
      sizes = ap (λ (e : EngineState). e.sizes) c.self.view_is;
      table = there ∙ ap (λ (e : EngineState). kept_at_load e.hops e.candidates) c.self.view_is;
      loaded = refl;
      events = ap (λ (e : EngineState). e.events) c.self.view_is;
      moves = ap (λ (e : EngineState). e.moves) c.self.view_is;
    }

pub returns-clause-stands : goal.returns-clause-stands
returns-clause-stands c = λ load st.
    let t = c.self.inside in
    let ends = returns-clause-ends c in
    let new : EngineState = record { every = t.parts.limits.every; fewest = t.parts.limits.fewest; sizes = sizes_as t.parts.limits.sizes; candidates = t.parts.candidates.candidates; hops = t.parts.hops.list; table = table_of c.args.tables; loaded = true; events = t.parts.events; moves = t.parts.moves } in
    stands_end load c.args.self.now new ends.candidates ends.hops ends.table refl ends.events (returns-clause-fits c) st
