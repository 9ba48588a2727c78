use Rattle.fib_addr.specs.Views.{prefix_as}
use Rattle.fib_addr.proofs.Prefixes.{some_left, half_answers, half_bits}
use Rattle.fib_addr.proofs.region.PrefixRegionRegion.half.Goals as goal

pub half-requires : goal.half-requires
half-requires g c = some_left c.args.self.now.prefix c.requires

pub returns-clause-bits : goal.returns-clause-bits
returns-clause-bits g c = half_bits (prefix_as c.args.self.now.prefix) (prefix_as c.half.result) c.args.bit c.requires c.half.ensures

pub returns-clause-answers : goal.returns-clause-answers
returns-clause-answers g c = half_answers (g.A.Answers.entries c.args.self.now.table.now) (prefix_as c.args.self.now.prefix) (prefix_as c.half.result) c.args.bit c.half.ensures
