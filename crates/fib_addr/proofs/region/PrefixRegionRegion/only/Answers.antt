use Rattle.fib_addr.proofs.Prefixes.{only_one, only_none}
use Rattle.fib_addr.proofs.region.PrefixRegionRegion.only.Goals as goal

pub returns-clause-one : goal.returns-clause-one
returns-clause-one g c = only_one (g.A.Answers.entries c.args.self.now.table.now) c.args.self.now.prefix c.uniform.result c.uniform.ensures.one

pub returns-clause-differ : goal.returns-clause-differ
returns-clause-differ g c = only_none (g.A.Answers.entries c.args.self.now.table.now) c.args.self.now.prefix c.uniform.result c.uniform.ensures.differ
