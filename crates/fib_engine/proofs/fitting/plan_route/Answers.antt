use Rattle.std.proofs.Common.{◌≡◌, Some, ap, ◌∙◌}
use Rattle.fib_addr.specs.Views.{prefix_as}
use Rattle.orig_tree.specs.Views.{Labels}
use Rattle.route_tries.specs.Sizes.{shortage_as, sizes_as, told_need, told_needs}
use Rattle.route_tries.specs.Parts.{need_at}
use Rattle.route_tries.specs.declared.sizes.TrieFull.{TrieFull}
use Rattle.fib_engine.specs.Tables.{ArePut, needs_put}
use Rattle.fib_engine.proofs.Erring.{err_is, is_full}
use Rattle.fib_engine.proofs.Needing.{replaced, put_needs, fits_put, exact_put, short_put}
use Rattle.fib_engine.proofs.fitting.plan_route.Goals as goal

pub returns-in-Ok-clause-needs : goal.returns-in-Ok-clause-needs
returns-in-Ok-clause-needs c =
    let s = c.args.sizes.now.direct in
    let old = c.args.tables.now in
    let new = c.plan.new.self in
    let p = c.args.route.0 in
    let h = c.args.route.1 in
    let r = c.replace_need-needs.result in
    let put : ArePut (Some (p, h)) old new = c.in_ok-plan.ensures.put in
    let before = c.need_at-before.ensures ∙ ap (λ (l : Labels). told_need (need_at s l.routes (prefix_as p))) c.tree.ensures in
    let after = c.need_at-after.ensures ∙ ap (λ (l : Labels). told_need (need_at s l.routes (prefix_as p))) c.tree-2.ensures in
    let is : r ≡ told_needs (needs_put s (Some (p, h)) old) =
    replaced s p h c.args.needs r c.need_at-before.result c.need_at-after.result old new c.requires.few c.requires.needs put c.requires.order.0 c.requires.order.1 before after c.replace_need-needs.ensures
    ∙ ap told_needs (put_needs s (Some (p, h)) old new put)
    in
    exact_put (sizes_as c.args.sizes.now) c.args.sizes.now.few_nodes c.args.sizes.now.few_leaves r (needs_put s (Some (p, h)) old) is c.in-Ok.ensures.ok

pub returns-in-Ok-clause-fits : goal.returns-in-Ok-clause-fits
returns-in-Ok-clause-fits c =
    let s = c.args.sizes.now.direct in
    let old = c.args.tables.now in
    let new = c.plan.new.self in
    let p = c.args.route.0 in
    let h = c.args.route.1 in
    let r = c.replace_need-needs.result in
    let put : ArePut (Some (p, h)) old new = c.in_ok-plan.ensures.put in
    let before = c.need_at-before.ensures ∙ ap (λ (l : Labels). told_need (need_at s l.routes (prefix_as p))) c.tree.ensures in
    let after = c.need_at-after.ensures ∙ ap (λ (l : Labels). told_need (need_at s l.routes (prefix_as p))) c.tree-2.ensures in
    let is : r ≡ told_needs (needs_put s (Some (p, h)) old) =
    replaced s p h c.args.needs r c.need_at-before.result c.need_at-after.result old new c.requires.few c.requires.needs put c.requires.order.0 c.requires.order.1 before after c.replace_need-needs.ensures
    ∙ ap told_needs (put_needs s (Some (p, h)) old new put)
    in
    fits_put (sizes_as c.args.sizes.now) c.args.sizes.now.few_nodes c.args.sizes.now.few_leaves r (needs_put s (Some (p, h)) old) is c.in-Ok.ensures.ok

pub returns-in-Err-clause-short : goal.returns-in-Err-clause-short
returns-in-Err-clause-short c = λ t e.
    let s = c.args.sizes.now.direct in
    let old = c.args.tables.now in
    let new = c.plan.new.self in
    let p = c.args.route.0 in
    let h = c.args.route.1 in
    let r = c.replace_need-needs.result in
    let put : ArePut (Some (p, h)) old new = c.in_ok-plan.ensures.put in
    let before = c.need_at-before.ensures ∙ ap (λ (l : Labels). told_need (need_at s l.routes (prefix_as p))) c.tree.ensures in
    let after = c.need_at-after.ensures ∙ ap (λ (l : Labels). told_need (need_at s l.routes (prefix_as p))) c.tree-2.ensures in
    let is : r ≡ told_needs (needs_put s (Some (p, h)) old) =
    replaced s p h c.args.needs r c.need_at-before.result c.need_at-after.result old new c.requires.few c.requires.needs put c.requires.order.0 c.requires.order.1 before after c.replace_need-needs.ensures
    ∙ ap told_needs (put_needs s (Some (p, h)) old new put)
    in
    short_put (sizes_as c.args.sizes.now) c.args.sizes.now.few_nodes c.args.sizes.now.few_leaves r (needs_put s (Some (p, h)) old) is (shortage_as t) (c.in-Err.ensures.short ∙ ap (λ (x : TrieFull). Some (shortage_as x)) (is_full (err_is e)))
