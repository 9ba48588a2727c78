use Rattle.fib_addr.proofs.HopLemmas.{none_seen}
use Rattle.fib_addr.proofs.hops.HopTable.new.Goals as goal

pub invariant_of-result : goal.invariant_of-result
invariant_of-result c = none_seen c.new.result.keys c.new.ensures.len
