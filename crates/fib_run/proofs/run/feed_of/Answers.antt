use Rattle.std.proofs.Common.{rules}
use Rattle.fib_due.specs.InTime.{FeedMayGoOn}
use Rattle.fib_run.proofs.FeedPasses.{feeds_read}
use Rattle.fib_run.proofs.run.feed_of.Goals as goal

pub returns-clause-reads : goal.returns-clause-reads
returns-clause-reads g c = λ limits before s. feeds_read (g.I.Inputs.content c.args.inputs.now) (λ _. FeedMayGoOn limits.sizes c.args.vrps.now c.args.which before) _ _ c.args.which c.args.name.now c.feed.result c.map_err.result (c.feed.ensures.in_time limits before s) c.feed.ensures.numbered (search rules)
