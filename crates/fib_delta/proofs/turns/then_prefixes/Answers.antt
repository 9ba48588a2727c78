use Rattle.std.proofs.Common.{sym, ap, ◌∙◌}
use Rattle.std.specs.Ordering.{ordering_then}
use Rattle.table_model.specs.Order.{prefix_cmp}
use Rattle.fib_addr.specs.Views.{prefix_as}
use Rattle.fib_addr.proofs.Ordering.{cmp_is}
use Rattle.fib_delta.proofs.turns.then_prefixes.Goals as goal

pub returns-in-Equal : goal.returns-in-Equal
returns-in-Equal c = c.cmp.ensures ∙ (cmp_is c.args.a.now c.args.b.now ∙ ap (λ o. ordering_then o (prefix_cmp (prefix_as c.args.a.now) (prefix_as c.args.b.now))) (sym c.in-Equal.is))
