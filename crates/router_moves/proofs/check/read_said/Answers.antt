use Rattle.fib_same.proofs.Reading.{judged_reads}
use Rattle.router_moves.proofs.check.read_said.Goals as goal

pub returns-clause-reads : goal.returns-clause-reads
returns-clause-reads g c = judged_reads _ _ 3 c.args.name.now c.said_of.result c.said_of.ensures.of_text c.in_ok-octets.ensures.reads
