use Rattle.std.proofs.Common.{◌≡◌, [], map, refl, ap, ◌∙◌}
use Rattle.table_model.specs.Address.{Prefix}
use Rattle.fib_addr.specs.Views.{prefix_as, entry_as}
use Rattle.smalta_keep.proofs.Apart.{whole_place, whole_apart, none_if}
use Rattle.smalta_keep.proofs.pass.go_over.Goals as goal

pub list_differing-requires-clause-place : goal.list_differing-requires-clause-place
list_differing-requires-clause-place c =
    let k = c.args.tree.now in
    let p = c.whole-whole.result in
    let e : prefix_as p ≡ record { family = k.family; bits = [] } = c.whole-whole.ensures ∙ ap (λ f. let q : Prefix = record { family = f; bits = [] } in q) c.family.ensures.family in
    whole_place k p c.region.result c.root.result e c.region.ensures.bits c.region.ensures.answers c.region.ensures.entries c.root.ensures.entries c.family.ensures.order.1
    _ c.args.dirty.now 0 refl refl c.root_of.ensures (none_if c.args.dirty.now c.is_none.result c.is_none.ensures) refl refl c.requires

pub returns-clause-tables : goal.returns-clause-tables
returns-clause-tables c =
    let k = c.args.tree.now in
    let p = c.whole-whole.result in
    let e : prefix_as p ≡ record { family = k.family; bits = [] } = c.whole-whole.ensures ∙ ap (λ f. let q : Prefix = record { family = f; bits = [] } in q) c.family.ensures.family in
    whole_apart k p c.region.result c.root.result e c.region.ensures.bits c.region.ensures.answers c.region.ensures.entries c.root.ensures.entries c.family.ensures.order.1
    0 (record { had = c.new.result; gets = c.new-2.result }) c.list_differing.new.out refl (ap (map entry_as) c.new.ensures.items) (ap (map entry_as) c.new-2.ensures.items) c.in_ok-list_differing.ensures
