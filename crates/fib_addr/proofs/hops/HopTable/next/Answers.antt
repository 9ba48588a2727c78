use Rattle.fib_addr.specs.Hops.{with_hop}
use Rattle.fib_addr.specs.Views.{addr_as}
use Rattle.fib_addr.proofs.HopLemmas.{new_number_told, told_holds}
use Rattle.fib_addr.proofs.hops.HopTable.next.Goals as goal

pub returns-in-None-clause-number : goal.returns-in-None-clause-number
returns-in-None-clause-number c = new_number_told c.args.self.now.list (addr_as c.args.addr.now) c.fresh.result c.in-None.ensures.number c.fresh.ensures.number

pub returns-in-None-clause-addr : goal.returns-in-None-clause-addr
returns-in-None-clause-addr c = let a = addr_as c.args.addr.now in told_holds (with_hop c.args.self.now.list a) a c.fresh.result (returns-in-None-clause-number c)
