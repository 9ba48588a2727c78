use Rattle.std.proofs.Common.{Option, ap, ◌∙◌}
use Rattle.table_model.specs.declared.family.Family.TheVariants.{V4, V6}
use Rattle.route_model.specs.Events.{Elem}
use Rattle.fib_engine.specs.Held.{engine_routes}
use Rattle.fib_engine.specs.Staged.{routes_once}
use Rattle.fib_engine.specs.Tables.{only}
use Rattle.fib_router.proofs.Readying.{filled_in, new_in, places_of}
use Rattle.fib_router.proofs.lives.Lives.new.Goals as goal

pub filled-requires : goal.filled-requires
filled-requires c =
    let l = c.args.lower.now in
    record { room = places_of V4 c.tree.result.now.family c.sizes-sizes.result l.held.sizes (engine_routes l.held) c.tree.result.now.routes c.sizes-sizes.ensures c.needs-needs.ensures.fits c.tree.ensures.family (c.tree.ensures.routes ∙ ap (λ (o : Option Elem). only V4 (routes_once o l.held)) c.requires) }

pub filled-requires-2 : goal.filled-requires-2
filled-requires-2 c =
    let l = c.args.lower.now in
    record { room = places_of V6 c.tree-2.result.now.family c.sizes-sizes.result l.held.sizes (engine_routes l.held) c.tree-2.result.now.routes c.sizes-sizes.ensures c.needs-needs.ensures.fits c.tree-2.ensures.family (c.tree-2.ensures.routes ∙ ap (λ (o : Option Elem). only V6 (routes_once o l.held)) c.requires) }

pub returns-clause-lives : goal.returns-clause-lives
returns-clause-lives c =
    let l = c.args.lower.now in (
      filled_in V4 c.tree.result.now.family c.sizes-sizes.result l.held c.tree.result.now.routes c.in_ok-v4.v4 c.sizes-sizes.ensures c.tree.ensures.family (c.tree.ensures.routes ∙ ap (λ (o : Option Elem). only V4 (routes_once o l.held)) c.requires) c.in_ok-v4.ensures,
      filled_in V6 c.tree-2.result.now.family c.sizes-sizes.result l.held c.tree-2.result.now.routes c.in_ok-v6.v6 c.sizes-sizes.ensures c.tree-2.ensures.family (c.tree-2.ensures.routes ∙ ap (λ (o : Option Elem). only V6 (routes_once o l.held)) c.requires) c.in_ok-v6.ensures,
    )

pub returns-clause-first : goal.returns-clause-first
returns-clause-first c =
    let l = c.args.lower.now in (
      new_in V4 c.tree.result.now.family c.sizes-sizes.result l.held c.tree.result.now.routes c.in_ok-v4.v4 c.sizes-sizes.ensures c.tree.ensures.family (c.tree.ensures.routes ∙ ap (λ (o : Option Elem). only V4 (routes_once o l.held)) c.requires) c.in_ok-v4.ensures,
      new_in V6 c.tree-2.result.now.family c.sizes-sizes.result l.held c.tree-2.result.now.routes c.in_ok-v6.v6 c.sizes-sizes.ensures c.tree-2.ensures.family (c.tree-2.ensures.routes ∙ ap (λ (o : Option Elem). only V6 (routes_once o l.held)) c.requires) c.in_ok-v6.ensures,
    )
