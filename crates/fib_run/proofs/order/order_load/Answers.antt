use Rattle.std.proofs.Common.{◌≡◌, ◌++◌, map, refl, sym, ap, subst, ◌∙◌}
use Rattle.std.proofs.lemmas.List.Sorted.{length_permutation}
use Rattle.std.specs.List.Sorted.{IsStrictlySortedBy}
use Rattle.std.specs.Map.{keys_of}
use Rattle.table_model.specs.Order.{prefix_cmp}
use Rattle.table_model.specs.Entries.{Entries}
use Rattle.table_model.specs.Changes.{additions}
use Rattle.kept_model.specs.Steady.{in_steady_order}
use Rattle.fib_addr.specs.Views.{entry_as}
use Rattle.fib_run.proofs.Steps.{all_changed}
use Rattle.fib_run.proofs.order.order_load.Goals as goal

pub returns-then-not-steady : goal.returns-then-not-steady
returns-then-not-steady c = λ s. rw c.if-not-steady.true refl

pub returns : goal.returns
returns c = λ s.
    let list = c.emit.new.out in
    let new = c.put_entries_in_steady_order.new.entries in
    let is : map entry_as list.items ≡ c.args.entries = c.in_ok-emit.ensures.takes ∙ ap (λ es. map entry_as es ++ c.args.entries) c.new-list.ensures.items in
    let told = ap (map entry_as) c.deref_mut.ensures.value ∙ is in
    let whole = all_changed list.len new list.items (length_permutation c.deref_mut.result.now new c.put_entries_in_steady_order.ensures.same ∙ c.deref_mut.ensures.len) in
    let there = c.put_entries_in_steady_order.ensures.steady (subst (λ (L : Entries). IsStrictlySortedBy prefix_cmp (keys_of L)) (sym told) s) ∙ ap (λ (L : Entries). in_steady_order (additions L)) told in
    rw c.if-not-steady.false (ap additions (c.in_ok-packed.ensures ∙ ap (map entry_as) (c.deref.ensures.value ∙ whole)) ∙ there)
