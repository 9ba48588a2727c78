use Rattle.std.proofs.Common.{◌≡◌, ◌++◌, List, map, sym, ap, subst, ◌∙◌}
use Rattle.std.proofs.lemmas.List.{map-append}
use Rattle.std.specs.List.Sorted.{IsStrictlySortedBy}
use Rattle.table_model.specs.Order.{prefix_cmp}
use Rattle.table_model.specs.Changes.{Change}
use Rattle.kept_model.specs.Between.{place_of}
use Rattle.kept_model.specs.Steady.{in_steady_order}
use Rattle.fib_delta.specs.Views.{change_as}
use Rattle.fib_delta.proofs.Turned.{parts_are}
use Rattle.fib_delta.proofs.order.put_event_in_steady_order.Goals as goal

pub returns-clause-steady : goal.returns-clause-steady
returns-clause-steady c = λ repair snapshot e l s t.
    let front = c.split_at_mut-repair.result.0.now in
    let back = c.split_at_mut-repair.result.1.now in
    let first = c.put_in_steady_order.new.changes in
    let last = c.put_in_steady_order-2.new.changes in
    let are = parts_are c.args.changes.now front back repair snapshot c.split_at_mut-repair.ensures.value e (c.split_at_mut-repair.ensures.front_len ∙ sym l) in
    let placed : (xs ys : List Change) → xs ≡ ys → IsStrictlySortedBy prefix_cmp (map place_of ys) → IsStrictlySortedBy prefix_cmp (map place_of xs) = λ xs ys i. subst (λ (zs : List Change). IsStrictlySortedBy prefix_cmp (map place_of zs)) (sym i) in
    let i : map change_as first ≡ in_steady_order repair = c.put_in_steady_order.ensures.steady (placed (map change_as front) repair are.0 s) ∙ ap in_steady_order are.0 in
    let j : map change_as last ≡ in_steady_order snapshot = c.put_in_steady_order-2.ensures.steady (placed (map change_as back) snapshot are.1 t) ∙ ap in_steady_order are.1 in
    map-append change_as first last ∙ (ap (λ (cs : List Change). cs ++ map change_as last) i ∙ ap (λ (cs : List Change). in_steady_order repair ++ cs) j)
