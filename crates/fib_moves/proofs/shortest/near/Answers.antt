use Rattle.std.proofs.Common.{◌≡◌, List, length, map, refl, sym, ap, subst, ◌∙◌}
use Rattle.std.proofs.lemmas.List.{length-map}
use Rattle.table_model.specs.Address.{Prefix}
use Rattle.table_model.specs.declared.family.Family.{Family}
use Rattle.table_model.specs.Changes.{Change}
use Rattle.cert_model.specs.Rows.{CertRow, whole_prefix}
use Rattle.fib_addr.specs.Views.{prefix_as}
use Rattle.fib_delta.specs.Views.{change_as}
use Rattle.cert_model.specs.Views.{row_as}
use Rattle.kept_model.specs.Between.{between}
use Rattle.moves_model.specs.Shortest.{AreProvedShortest}
use Rattle.moves_model.specs.Rows.{near_in}
use Rattle.moves_model.proofs.Whole.{are_shortest}
use Rattle.fib_moves.specs.Passes.{ListsChanges}
use Rattle.fib_moves.proofs.Whole.{whole_place, spot_table, bound_told, rows_told, changes_told, count_told, shortest_told, tree_family}
use Rattle.fib_moves.proofs.shortest.near.Goals as goal

pub climb-requires-clause-place : goal.climb-requires-clause-place
climb-requires-clause-place c =
    let k = c.args.tree.now in
    let p = c.whole-whole.result in
    let e : prefix_as p ≡ whole_prefix k.family = c.whole-whole.ensures ∙ ap whole_prefix c.family.ensures.family in
    whole_place k p c.region.result e c.region.ensures.bits c.region.ensures.answers c.region.ensures.entries c.family.ensures.order.1 c.family.ensures.order.0 (tree_family k c.root.result.entries c.root.ensures.entries)
    _ c.root.result refl refl c.root.ensures.entries

pub list_changes-requires-clause-table : goal.list_changes-requires-clause-table
list_changes-requires-clause-table c =
    let k = c.args.tree.now in
    let p = c.whole-whole.result in
    let e : prefix_as p ≡ whole_prefix k.family = c.whole-whole.ensures ∙ ap whole_prefix c.family.ensures.family in
    spot_table k p c.region.result e c.region.ensures.bits c.region.ensures.answers c.region.ensures.entries c.family.ensures.order.1 c.family.ensures.order.0 (tree_family k c.root.result.entries c.root.ensures.entries)

pub list_rows-requires-clause-table : goal.list_rows-requires-clause-table
list_rows-requires-clause-table c =
    let k = c.args.tree.now in
    let p = c.whole-whole.result in
    let e : prefix_as p ≡ whole_prefix k.family = c.whole-whole.ensures ∙ ap whole_prefix c.family.ensures.family in
    spot_table k p c.region.result e c.region.ensures.bits c.region.ensures.answers c.region.ensures.entries c.family.ensures.order.1 c.family.ensures.order.0 (tree_family k c.root.result.entries c.root.ensures.entries)

pub returns-clause-bound : goal.returns-clause-bound
returns-clause-bound c =
    let k = c.args.tree.now in
    let p = c.whole-whole.result in
    let e : prefix_as p ≡ whole_prefix k.family = c.whole-whole.ensures ∙ ap whole_prefix c.family.ensures.family in
    bound_told k p c.region.result e c.region.ensures.bits c.region.ensures.answers c.region.ensures.entries c.family.ensures.order.1 c.family.ensures.order.0 (tree_family k c.root.result.entries c.root.ensures.entries)
    c.in_ok-bound.bound c.in_ok-bound.ensures

pub returns-clause-changes : goal.returns-clause-changes
returns-clause-changes c =
    let k = c.args.tree.now in
    let p = c.whole-whole.result in
    let e : prefix_as p ≡ whole_prefix k.family = c.whole-whole.ensures ∙ ap whole_prefix c.family.ensures.family in
    let f : p.family ≡ k.family = ap (λ (q : Prefix). q.family) e in
    changes_told k p c.region.result e c.region.ensures.bits c.region.ensures.answers c.region.ensures.entries c.family.ensures.order.1 c.family.ensures.order.0 (tree_family k c.root.result.entries c.root.ensures.entries)
    (map change_as c.in_ok-changes.changes.items) (subst (λ (g : Family). ListsChanges g c.region.result (map change_as c.in_ok-changes.changes.items)) f c.in_ok-changes.ensures)

pub returns-clause-rows : goal.returns-clause-rows
returns-clause-rows c =
    let k = c.args.tree.now in
    let p = c.whole-whole.result in
    let e : prefix_as p ≡ whole_prefix k.family = c.whole-whole.ensures ∙ ap whole_prefix c.family.ensures.family in
    rows_told k p c.region.result e c.region.ensures.bits c.region.ensures.answers c.region.ensures.entries c.family.ensures.order.1 c.family.ensures.order.0 (tree_family k c.root.result.entries c.root.ensures.entries)
    c.in_ok-bound.bound _ _ _ (ap (map row_as) c.new-rows.ensures.items) c.in_ok-list_rows.ensures c.in_ok-push_row.ensures (returns-clause-bound c)

pub returns-clause-count : goal.returns-clause-count
returns-clause-count c =
    let k = c.args.tree.now in
    let p = c.whole-whole.result in
    let e : prefix_as p ≡ whole_prefix k.family = c.whole-whole.ensures ∙ ap whole_prefix c.family.ensures.family in
    sym (length-map c.in_ok-changes.changes.items change_as) ∙ (ap (λ (cs : List Change). length cs) (returns-clause-changes c)
    ∙ (count_told k p c.region.result e c.region.ensures.bits c.region.ensures.answers c.region.ensures.entries c.family.ensures.order.1 c.family.ensures.order.0 (tree_family k c.root.result.entries c.root.ensures.entries) ∙ sym (returns-clause-bound c)))

pub returns-clause-proved : goal.returns-clause-proved
returns-clause-proved c =
    let k = c.args.tree.now in
    let p = c.whole-whole.result in
    let e : prefix_as p ≡ whole_prefix k.family = c.whole-whole.ensures ∙ ap whole_prefix c.family.ensures.family in
    subst (λ (cs : List Change). AreProvedShortest k.family k.routes k.entries cs (map row_as c.push_row.new.out.items)) (sym (returns-clause-changes c))
    (subst (λ (rows : List CertRow). AreProvedShortest k.family k.routes k.entries (between k.entries (near_in k.family k.routes k.entries)) rows) (sym (returns-clause-rows c))
    (shortest_told k p c.region.result e c.region.ensures.bits c.region.ensures.answers c.region.ensures.entries c.family.ensures.order.1 c.family.ensures.order.0 (tree_family k c.root.result.entries c.root.ensures.entries)))

pub returns-clause-shortest : goal.returns-clause-shortest
returns-clause-shortest c =
    let k = c.args.tree.now in
    are_shortest k.family k.routes k.entries (map change_as c.in_ok-changes.changes.items) (map row_as c.push_row.new.out.items) (returns-clause-proved c)
