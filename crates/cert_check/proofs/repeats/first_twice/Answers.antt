use Rattle.cert_check.proofs.Later.{none_twice}
use Rattle.cert_check.proofs.repeats.first_twice.Goals as goal

pub returns-then-are_in_order : goal.returns-then-are_in_order
returns-then-are_in_order c = none_twice _ (c.are_in_order.ensures c.if-are_in_order.true)
