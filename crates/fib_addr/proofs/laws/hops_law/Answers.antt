use Rattle.fib_addr.proofs.HopLists.{number_there, number_holds, number_from, folded_distinct}
use Rattle.fib_addr.proofs.laws.hops_law.Goals as goal

pub returns : goal.returns
returns c = record { there = number_there; hop = number_holds; number = number_from; distinct = folded_distinct }
