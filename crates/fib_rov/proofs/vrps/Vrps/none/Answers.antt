use Rattle.fib_rov.proofs.Numbers.{index_of_none}
use Rattle.fib_rov.proofs.vrps.Vrps.none.Goals as goal

pub invariant_of-result : goal.invariant_of-result
invariant_of-result c = index_of_none _ _ _ c.new.ensures.items c.new-2.ensures.items
