use Rattle.mrt_read.specs.Whole.{MayGoOn}
use Rattle.fib_run.proofs.FeedPasses.{events_read}
use Rattle.fib_run.proofs.stepping.events_of.Goals as goal

pub returns-clause-reads : goal.returns-clause-reads
returns-clause-reads g c = events_read (g.I.Inputs.content c.args.inputs.now) (λ _. MayGoOn) _ _ c.args.name.now c.read_all_events.result c.map_err.result c.read_all_events.ensures.reads c.map_err.ensures.cases
