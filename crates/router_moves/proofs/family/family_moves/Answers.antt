use Rattle.std.proofs.Common.{◌≡◌, length, map, sym, ap, subst, ◌∙◌}
use Rattle.std.specs.List.Sorted.{IsStrictlySortedBy}
use Rattle.table_model.specs.Order.{prefix_cmp}
use Rattle.table_model.specs.declared.family.Family.{Family}
use Rattle.table_model.specs.Entries.{in_order}
use Rattle.kept_model.specs.Between.{place_of}
use Rattle.kept_model.proofs.Places.{in_places}
use Rattle.moves_model.specs.Rows.{near_in}
use Rattle.fib_addr.specs.Views.{entry_as}
use Rattle.fib_delta.specs.Views.{change_as}
use Rattle.moves_model.specs.Both.{family_changes, family_table, own_entries, told_in}
use Rattle.router_moves.proofs.Found.{all_changed, is_shortest}
use Rattle.router_moves.proofs.family.family_moves.Goals as goal

pub returns-clause-rows : goal.returns-clause-rows
returns-clause-rows c =
    let f = c.in_ok-tree-2.ensures.family ∙ c.in_ok-tree.ensures.family in
    let routes = c.in_ok-tree-2.ensures.routes ∙ (c.in_ok-tree.ensures.routes ∙ ap (λ es. family_table c.args.family (map entry_as es)) c.deref.ensures.value) in
    let entries =
    c.in_ok-tree-2.ensures.entries ∙ (ap (λ (g : Family). in_order (own_entries g (map entry_as c.deref-2.result.now))) c.in_ok-tree.ensures.family ∙ ap (λ es. family_table c.args.family (map entry_as es)) c.deref-2.ensures.value)
    in
    rw (f, routes, entries) at c.in_ok-moves.ensures.rows

pub returns-clause-changes : goal.returns-clause-changes
returns-clause-changes c =
    let f = c.in_ok-tree-2.ensures.family ∙ c.in_ok-tree.ensures.family in
    let routes = c.in_ok-tree-2.ensures.routes ∙ (c.in_ok-tree.ensures.routes ∙ ap (λ es. family_table c.args.family (map entry_as es)) c.deref.ensures.value) in
    let entries =
    c.in_ok-tree-2.ensures.entries ∙ (ap (λ (g : Family). in_order (own_entries g (map entry_as c.deref-2.result.now))) c.in_ok-tree.ensures.family ∙ ap (λ es. family_table c.args.family (map entry_as es)) c.deref-2.ensures.value)
    in
    let R = map entry_as c.args.asked.now.routes.items in
    let T = map entry_as c.args.asked.now.table.items in
    let is : map change_as c.deref_mut.result.now ≡ family_changes c.args.family R T = ap (map change_as) c.deref_mut.ensures.value ∙ (rw (f, routes, entries) at c.in_ok-moves.ensures.changes) in
    let sorted = in_places (family_table c.args.family T) (near_in c.args.family (family_table c.args.family R) (family_table c.args.family T)) in
    ap (map change_as) (all_changed c.in_ok-moves.moves.changes.len c.put_in_order.new.changes c.in_ok-moves.moves.changes.items (c.put_in_order.ensures.same ∙ c.deref_mut.ensures.len))
    ∙ (c.put_in_order.ensures.told (subst (λ cs. IsStrictlySortedBy prefix_cmp (map place_of cs)) (sym is) sorted) ∙ ap (told_in c.args.steady) is)

pub returns-clause-shortest : goal.returns-clause-shortest
returns-clause-shortest c =
    is_shortest c.args.family c.args.steady c.args.asked.now.routes.items c.args.asked.now.table.items _ (returns-clause-changes c) (returns-clause-rows c)
    (ap length (all_changed c.in_ok-moves.moves.changes.len c.put_in_order.new.changes c.in_ok-moves.moves.changes.items (c.put_in_order.ensures.same ∙ c.deref_mut.ensures.len))
    ∙ (c.put_in_order.ensures.same ∙ (ap length c.deref_mut.ensures.value ∙ c.in_ok-moves.ensures.count)))
