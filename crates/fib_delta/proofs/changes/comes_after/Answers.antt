use Rattle.std.proofs.Common.{sym, ◌∙◌}
use Rattle.fib_addr.proofs.Ordering.{cmp_is}
use Rattle.fib_delta.proofs.changes.comes_after.Goals as goal

pub returns-in-Less : goal.returns-in-Less
returns-in-Less c = λ yes. rw c.in-Some.is (sym (cmp_is c.in-Some.last c.args.prefix.now) ∙ (sym c.cmp.ensures ∙ c.in-Less.is))
