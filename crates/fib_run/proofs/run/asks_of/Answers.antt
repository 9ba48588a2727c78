use Rattle.fib_words.specs.Commands.{named_as}
use Rattle.fib_due.specs.InTime.{RunMayGoOn}
use Rattle.fib_run.proofs.FeedPasses.{asks_read}
use Rattle.fib_run.proofs.run.asks_of.Goals as goal

pub returns-clause-reads : goal.returns-clause-reads
returns-clause-reads g c =
    let content = g.I.Inputs.content c.args.inputs.now in
    rw c.in-Some.is (asks_read content (RunMayGoOn content (named_as c.args.command.now)) _ _ c.in-Some.name.now c.read_asks.result c.map_err.result c.read_asks.ensures.reads c.map_err.ensures.cases)
