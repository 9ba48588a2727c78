use Rattle.std.proofs.Common.{◌≡◌, List, map, rules, sym, ap, subst, ◌∙◌}
use Rattle.std.specs.List.Sorted.{IsStrictlySortedBy}
use Rattle.std.specs.Ordering.{is_lt}
use Rattle.std.proofs.lemmas.List.Sorted.{answers_always, ranks_by}
use Rattle.table_model.specs.Order.{prefix_cmp}
use Rattle.table_model.specs.Entries.{in_order}
use Rattle.table_model.specs.Changes.{Change}
use Rattle.kept_model.specs.Between.{between, place_of}
use Rattle.kept_model.proofs.Places.{in_places}
use Rattle.kept_model.specs.Steady.{LeadSteadily, in_steady_order}
use Rattle.kept_model.specs.Turns.{steady_cmp}
use Rattle.kept_model.proofs.Goes.{steady}
use Rattle.kept_model.proofs.Sorted.{steady_total, sorted_steady}
use Rattle.fib_delta.specs.declared.change.Change as code_change
use Rattle.fib_delta.specs.Views.{change_as}
use Rattle.fib_delta.proofs.Turned.{have_places}
use Rattle.fib_delta.proofs.order.put_in_steady_order.Goals as goal

pub returns-clause-steady : goal.returns-clause-steady
returns-clause-steady c =
    let sort = c.sort_unstable_by.ensures in
    λ s. sorted_steady change_as _ _ s (have_places _) sort.permutation (sort.sorted (λ x y. is_lt (steady_cmp (change_as x) (change_as y))) (ranks_by steady_total change_as) (answers_always _ _ _ (λ f a r g h. search rules)))

pub returns-clause-leads : goal.returns-clause-leads
returns-clause-leads c = λ T U t u e.
    let new : List code_change.Change = c.sort_unstable_by.new.self in
    let placed : IsStrictlySortedBy prefix_cmp (map place_of (map change_as c.args.changes.now)) = subst (λ (cs : List Change). IsStrictlySortedBy prefix_cmp (map place_of cs)) (sym e) (in_places T U) in
    let is : map change_as new ≡ in_steady_order (between T U) = returns-clause-steady c placed ∙ ap in_steady_order e in
    subst (λ (cs : List Change). LeadSteadily cs (in_order T) (in_order U)) (sym is) (steady T U t u)
