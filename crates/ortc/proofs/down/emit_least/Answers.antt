use Rattle.std.proofs.Common.{◌≡◌, [], refl, ap, ◌∙◌}
use Rattle.table_model.specs.Address.{Prefix}
use Rattle.fib_addr.specs.Views.{prefix_as}
use Rattle.table_model.specs.Entries.{of_family}
use Rattle.ortc.proofs.Falling.{handed_all}
use Rattle.ortc.proofs.down.emit_least.Goals as goal

pub returns-clause-takes : goal.returns-clause-takes
returns-clause-takes g c =
    let f = c.args.tree.now.family in
    let p = c.whole-whole.result in
    let whole : prefix_as p ≡ record { family = f; bits = [] } = c.whole-whole.ensures ∙ ap (λ k. let q : Prefix = record { family = k; bits = [] } in q) c.family.ensures.family in
    handed_all g.S.EntrySink.takes f p 0 (of_family f c.args.tree.now.routes) (of_family f c.args.tree.now.entries) c.region-region.result c.args.out.now c.descend.new.out whole refl c.region-region.ensures.bits c.region-region.ensures.answers c.region-region.ensures.entries c.in_ok-descend.ensures.takes
