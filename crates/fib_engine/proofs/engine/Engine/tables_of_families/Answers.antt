use Rattle.std.proofs.Common.{◌≡◌, ◌≤◌, ℕ, sym, ap, subst, ◌∙◌}
use Rattle.std.specs.List.{AllByRecursion}
use Rattle.std.specs.Map.{keys_of}
use Rattle.table_model.specs.Address.{IsPrefix, Prefix}
use Rattle.table_model.specs.declared.family.Family.TheVariants.{V4, V6}
use Rattle.table_model.specs.Entries.{Entries, in_order}
use Rattle.route_model.specs.Choice.{routes_of}
use Rattle.orig_tree.specs.Views.{InPlace}
use Rattle.fib_engine.specs.Held.{EngineState, engine_routes}
use Rattle.fib_engine.specs.Tables.{only}
use Rattle.fib_engine.proofs.Holding.{all_only, only_again, only_placed}
use Rattle.fib_engine.proofs.Numbering.{numbers_least}
use Rattle.fib_engine.proofs.Taking.{put_in_order, routes_have, routes_placed}
use Rattle.fib_engine.proofs.engine.Engine.tables_of_families.Goals as goal

pub load_from-requires-clause-prefixes : goal.load_from-requires-clause-prefixes
load_from-requires-clause-prefixes c =
    let t = c.self.inside in
    let E = engine_routes c.args.self.now in
    let placed = subst (λ (e : EngineState). InPlace (engine_routes e)) c.self.view_is (routes_placed t.parts.candidates.candidates t.parts.hops.list t.parts.is_loaded t.parts.tables c.self.invariant.0) in (
      subst (λ (L : Entries). AllByRecursion IsPrefix (keys_of L)) (sym c.requires.v4) (only_placed V4 E placed).0,
      subst (λ (L : Entries). AllByRecursion IsPrefix (keys_of L)) (sym c.requires.v6) (only_placed V6 E placed).0,
    )

pub load_from-requires-clause-hops : goal.load_from-requires-clause-hops
load_from-requires-clause-hops c =
    let t = c.self.inside in
    let C = t.parts.candidates.candidates in
    let E = engine_routes c.args.self.now in
    let least = subst (λ (e : EngineState). AllByRecursion (λ (r : Prefix × ℕ). 1 ≤ r.1) (engine_routes e)) c.self.view_is (numbers_least t.parts.hops.list (routes_of C) (routes_have C t.parts.hops.list t.parts.is_loaded t.parts.tables c.self.invariant.0)) in (
      subst (λ (L : Entries). AllByRecursion (λ (r : Prefix × ℕ). 1 ≤ r.1) L) (sym c.requires.v4) (all_only (λ (r : Prefix × ℕ). 1 ≤ r.1) V4 E least),
      subst (λ (L : Entries). AllByRecursion (λ (r : Prefix × ℕ). 1 ≤ r.1) L) (sym c.requires.v6) (all_only (λ (r : Prefix × ℕ). 1 ≤ r.1) V6 E least),
    )

pub returns : goal.returns
returns c =
    let t = c.self.inside in
    let E = engine_routes c.args.self.now in
    let placed = subst (λ (e : EngineState). InPlace (engine_routes e)) c.self.view_is (routes_placed t.parts.candidates.candidates t.parts.hops.list t.parts.is_loaded t.parts.tables c.self.invariant.0) in
    record {
      families = c.in_ok-tables.ensures.both;
      v4 = c.in_ok-tables.ensures.v4 ∙ (ap (λ (L : Entries). in_order (only V4 L)) c.requires.v4 ∙ (put_in_order V4 (only V4 E) (only_placed V4 E placed) ∙ only_again V4 E));
      v6 = c.in_ok-tables.ensures.v6 ∙ (ap (λ (L : Entries). in_order (only V6 L)) c.requires.v6 ∙ (put_in_order V6 (only V6 E) (only_placed V6 E placed) ∙ only_again V6 E));
      v4_empty = c.in_ok-tables.ensures.empty.0;
      v6_empty = c.in_ok-tables.ensures.empty.1;
    }
