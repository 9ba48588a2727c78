use Rattle.std.proofs.Common.{List, rules, sym, ap, subst, ◌∙◌}
use Rattle.std.specs.List.Sorted.{IsStrictlySortedBy}
use Rattle.std.specs.Ordering.{is_lt}
use Rattle.std.proofs.lemmas.List.Sorted.{answers_always, ranks_by}
use Rattle.table_model.specs.Address.{Prefix}
use Rattle.table_model.specs.Order.{prefix_cmp}
use Rattle.kept_model.specs.Steady.{in_steady_order}
use Rattle.kept_model.specs.Turns.{steady_cmp}
use Rattle.kept_model.proofs.Sorted.{steady_total, sorted_steady}
use Rattle.fib_delta.proofs.Turned.{added, additions_are, added_places, have_added_places}
use Rattle.fib_delta.proofs.order.put_entries_in_steady_order.Goals as goal

pub returns-clause-steady : goal.returns-clause-steady
returns-clause-steady c =
    let sort = c.sort_unstable_by.ensures in
    let old = c.args.entries.now in
    let new = c.sort_unstable_by.new.self in
    λ s. additions_are new
    ∙ (sorted_steady added old new (subst (λ (ps : List Prefix). IsStrictlySortedBy prefix_cmp ps) (sym (added_places old)) s) (have_added_places old) sort.permutation
    (sort.sorted (λ x y. is_lt (steady_cmp (added x) (added y))) (ranks_by steady_total added) (answers_always _ _ _ (λ f a r g h. search rules)))
    ∙ ap in_steady_order (sym (additions_are old)))
