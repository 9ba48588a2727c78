use Rattle.fib_addr.proofs.Ordering.{cmp_is}
use Rattle.fib_addr.proofs.laws.order_law.Goals as goal

pub returns : goal.returns
returns c = record { prefixes = cmp_is }
