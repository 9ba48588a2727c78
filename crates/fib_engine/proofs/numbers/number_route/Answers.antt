use Rattle.std.proofs.Common.{Some}
use Rattle.fib_addr.specs.Views.{addr_as}
use Rattle.fib_engine.proofs.Numbering.{held_already}
use Rattle.fib_engine.proofs.numbers.number_route.Goals as goal

pub returns-else-is_new : goal.returns-else-is_new
returns-else-is_new c = held_already c.args.hops.now.list (addr_as c.args.hop.now) (Some c.args.own) c.requires.own (c.is_new.ensures c.if-is_new.false)
