use Rattle.std.proofs.Common.{◌≡◌, Option, Some, None, Err, ap, ◌∙◌}
use Rattle.table_model.specs.declared.family.Family.TheVariants.{V4, V6}
use Rattle.table_model.specs.Entries.{of_family}
use Rattle.orig_tree.specs.Views.{Labels}
use Rattle.route_tries.specs.Sizes.{Shortage, first_short, sizes_as}
use Rattle.fib_engine.specs.FinalFib.{Rests}
use Rattle.fib_engine.specs.Tables.{both_routes}
use Rattle.fib_engine.proofs.Holding.{of_only}
use Rattle.fib_engine.proofs.Needing.{needs_known}
use Rattle.fib_engine.proofs.final_fib.FinalFib.tries.Goals as goal

pub returns-in-Ok : goal.returns-in-Ok
returns-in-Ok c =
    let s = c.self.invariant in
    let E = both_routes c.self.inside.tables in
    record {
      direct = c.in-Ok.ensures.direct ∙ ap (λ (r : Rests). r.sizes.direct) c.self.view_is;
      v4 = ap (of_family V4) (c.in-Ok.ensures.routes.0 ∙ (ap (λ (l : Labels). l.routes) c.tree-v4.ensures ∙ s.v4.routes)) ∙ (of_only V4 E ∙ ap (λ (r : Rests). of_family V4 r.routes) c.self.view_is);
      v6 = ap (of_family V6) (c.in-Ok.ensures.routes.1 ∙ (ap (λ (l : Labels). l.routes) c.tree-v6.ensures ∙ s.v6.routes)) ∙ (of_only V6 E ∙ ap (λ (r : Rests). of_family V6 r.routes) c.self.view_is);
    }

pub unreachable-requires : goal.unreachable-requires
unreachable-requires c =
    let s = c.self.invariant in
    let z = sizes_as c.self.inside.sizes in
    let E = both_routes c.self.inside.tables in
    let known = needs_known z.direct c.tree-v4.result.now.routes c.tree-v6.result.now.routes E (ap (λ (l : Labels). l.routes) c.tree-v4.ensures ∙ s.v4.routes) (ap (λ (l : Labels). l.routes) c.tree-v6.ensures ∙ s.v6.routes) in
    let short = c.build.ensures.full c.in-Err-Full.field-0-0 (c.in-Err-Full.is ∙ ap Err c.in-Err-Full.field-0-is) in
    not_both (ap (first_short z) known ∙ s.needs.fit) short
  where
    not_both : {o : Option Shortage} {x : Shortage} → o ≡ None → o ≡ Some x → ⊥
    not_both e f = cc
