use Rattle.std.proofs.Common.{◌≡◌, ◌≤◌, ℕ, map, sym, ap, subst, ◌∙◌}
use Rattle.std.specs.List.{AllByRecursion}
use Rattle.table_model.specs.Address.{Prefix}
use Rattle.table_model.specs.declared.family.Family.TheVariants.{V4, V6}
use Rattle.table_model.specs.Entries.{Entries, in_order}
use Rattle.route_model.specs.Choice.{routes_of}
use Rattle.fib_addr.specs.Views.{entry_as}
use Rattle.orig_tree.specs.Views.{InPlace}
use Rattle.fib_engine.specs.Held.{EngineState, engine_routes}
use Rattle.fib_engine.specs.Tables.{only}
use Rattle.fib_engine.proofs.Numbering.{numbers_least}
use Rattle.fib_engine.proofs.Taking.{put_in_order, routes_have, routes_placed}
use Rattle.fib_engine.proofs.engine.Engine.tables_of_list.Goals as goal

pub load-requires : goal.load-requires
load-requires c =
    let t = c.self.inside in
    let C = t.parts.candidates.candidates in
    let is : map entry_as c.deref.result.now ≡ engine_routes c.args.self.now = ap (map entry_as) c.deref.ensures.value ∙ c.in_ok-routes.ensures in
    subst (λ (E : Entries). AllByRecursion (λ (r : Prefix × ℕ). 1 ≤ r.1) E) (sym (is ∙ ap engine_routes (sym c.self.view_is))) (numbers_least t.parts.hops.list (routes_of C) (routes_have C t.parts.hops.list t.parts.is_loaded t.parts.tables c.self.invariant.0))

pub returns : goal.returns
returns c =
    let t = c.self.inside in
    let E = engine_routes c.args.self.now in
    let is : map entry_as c.deref.result.now ≡ E = ap (map entry_as) c.deref.ensures.value ∙ c.in_ok-routes.ensures in
    let placed = subst (λ (e : EngineState). InPlace (engine_routes e)) c.self.view_is (routes_placed t.parts.candidates.candidates t.parts.hops.list t.parts.is_loaded t.parts.tables c.self.invariant.0) in
    let given = c.in_ok-tables.ensures.given in
    record {
      families = c.in_ok-tables.ensures.both;
      v4 = given V4 ∙ (ap (λ (L : Entries). in_order (only V4 L)) is ∙ put_in_order V4 E placed);
      v6 = given V6 ∙ (ap (λ (L : Entries). in_order (only V6 L)) is ∙ put_in_order V6 E placed);
      v4_empty = c.in_ok-tables.ensures.empty.0;
      v6_empty = c.in_ok-tables.ensures.empty.1;
    }
