use Rattle.std.proofs.Common.{rules}
use Rattle.std.proofs.lemmas.List.Sorted.{answers_always, ranks_by}
use Rattle.std.specs.Ordering.{is_lt}
use Rattle.table_model.specs.Order.{prefix_cmp}
use Rattle.table_model.proofs.Ordered.{prefix_total}
use Rattle.fib_addr.specs.Views.{prefix_as}
use Rattle.fib_rov.specs.declared.numbered.Numbered.{Numbered}
use Rattle.fib_rov.specs.Index.{prefix_of}
use Rattle.fib_rov.proofs.index.sort.Goals as goal

pub returns-clause-sorted : goal.returns-clause-sorted
returns-clause-sorted c =
    c.sort_unstable_by.ensures.sorted (λ (x y : Numbered). is_lt (prefix_cmp (prefix_as (prefix_of x)) (prefix_as (prefix_of y)))) (ranks_by prefix_total (λ (x : Numbered). prefix_as (prefix_of x))) (answers_always _ _ _ (λ f a r g h. search rules))
