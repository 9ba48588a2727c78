use Rattle.std.proofs.Common.{ap, ◌∙◌}
use Rattle.orig_tree.specs.Views.{Labels}
use Rattle.fib_engine.specs.Tables.{only}
use Rattle.fib_engine.specs.Staged.{Staging, routes_planned}
use Rattle.fib_engine.proofs.Staging.{tree_family, tree_routes}
use Rattle.fib_engine.proofs.staged.Staged.tree.Goals as goal

pub returns-clause-family : goal.returns-clause-family
returns-clause-family c =
    let t = c.self.inside in
    ap (λ (l : Labels). l.family) c.tree.ensures ∙ tree_family c.args.family t.waiting t.parts c.self.invariant

pub returns-clause-routes : goal.returns-clause-routes
returns-clause-routes c =
    let t = c.self.inside in
    ap (λ (l : Labels). l.routes) c.tree.ensures ∙ (tree_routes c.args.family t.waiting t.parts c.self.invariant ∙ ap (λ (s : Staging). only c.args.family (routes_planned s)) c.self.view_is)
