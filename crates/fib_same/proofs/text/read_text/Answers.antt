use Rattle.fib_same.proofs.Reading.{judged_reads}
use Rattle.fib_same.proofs.text.read_text.Goals as goal

pub returns-clause-reads : goal.returns-clause-reads
returns-clause-reads g c = judged_reads _ _ c.args.text c.args.name.now c.entries_of.result c.entries_of.ensures.of_text c.in_ok-octets.ensures.reads
