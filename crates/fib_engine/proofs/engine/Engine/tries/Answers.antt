use Rattle.std.proofs.Common.{◌≡◌, Option, Some, None, Err, ap, ◌∙◌}
use Rattle.table_model.specs.declared.family.Family.TheVariants.{V4, V6}
use Rattle.table_model.specs.Entries.{of_family}
use Rattle.orig_tree.specs.Views.{Labels}
use Rattle.kept_model.specs.Feed.{entries_of}
use Rattle.fib_engine.specs.Held.{EngineState, if_loaded, routes_told}
use Rattle.route_tries.specs.Sizes.{Shortage, first_short, sizes_as}
use Rattle.fib_engine.proofs.Holding.{of_only}
use Rattle.fib_engine.proofs.Needing.{needs_known}
use Rattle.fib_engine.proofs.engine.Engine.tries.Goals as goal

pub returns-in-Ok : goal.returns-in-Ok
returns-in-Ok c =
    let t = c.self.inside in
    let s = c.self.invariant.0 in
    let E = if_loaded t.parts.is_loaded (entries_of t.parts.hops.list t.parts.candidates.candidates) in
    record {
      direct = c.in-Ok.ensures.direct ∙ ap (λ (h : EngineState). h.sizes.direct) c.self.view_is;
      v4 = ap (of_family V4) (c.in-Ok.ensures.routes.0 ∙ (ap (λ (l : Labels). l.routes) c.tree-v4.ensures ∙ s.v4.routes)) ∙ (of_only V4 E ∙ ap (λ (h : EngineState). of_family V4 (routes_told h)) c.self.view_is);
      v6 = ap (of_family V6) (c.in-Ok.ensures.routes.1 ∙ (ap (λ (l : Labels). l.routes) c.tree-v6.ensures ∙ s.v6.routes)) ∙ (of_only V6 E ∙ ap (λ (h : EngineState). of_family V6 (routes_told h)) c.self.view_is);
    }

pub unreachable-requires : goal.unreachable-requires
unreachable-requires c =
    let t = c.self.inside in
    let s = c.self.invariant.0 in
    let z = sizes_as t.parts.limits.sizes in
    let E = if_loaded t.parts.is_loaded (entries_of t.parts.hops.list t.parts.candidates.candidates) in
    let known = needs_known z.direct c.tree-v4.result.now.routes c.tree-v6.result.now.routes E (ap (λ (l : Labels). l.routes) c.tree-v4.ensures ∙ s.v4.routes) (ap (λ (l : Labels). l.routes) c.tree-v6.ensures ∙ s.v6.routes) in
    let short = c.build.ensures.full c.in-Err-Full.field-0-0 (c.in-Err-Full.is ∙ ap Err c.in-Err-Full.field-0-is) in
    not_both (ap (first_short z) known ∙ c.self.invariant.1.fit) short
  where
    not_both : {o : Option Shortage} {x : Shortage} → o ≡ None → o ≡ Some x → ⊥
    not_both e f = cc
