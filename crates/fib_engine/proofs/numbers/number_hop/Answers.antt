use Rattle.fib_engine.proofs.Numbering.{held_put}
use Rattle.fib_engine.proofs.numbers.number_hop.Goals as goal

pub returns-else-is_new : goal.returns-else-is_new
returns-else-is_new c = held_put c.args.hops.now.list c.args.elem.now c.in-Put.field-0 c.in-Put.field-1 c.in-Put.field-2 c.in-Put.hop c.args.own c.in-Put.is c.requires.own (c.is_new.ensures c.if-is_new.false)
