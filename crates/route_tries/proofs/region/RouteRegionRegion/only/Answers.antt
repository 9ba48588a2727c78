use Rattle.fib_addr.proofs.OneAnswer.{one_answer_from}
use Rattle.orig_tree.specs.Spots.{spot_answers}
use Rattle.route_tries.proofs.Going.{not_one}
use Rattle.route_tries.proofs.region.RouteRegionRegion.only.Goals as goal

pub returns-in-Some-clause-one : goal.returns-in-Some-clause-one
returns-in-Some-clause-one c = one_answer_from c.args.self.now.region.bits (spot_answers c.args.self.now.region) c.in-Some.hop c.in-Some.ensures.one

pub returns-in-None-clause-differ : goal.returns-in-None-clause-differ
returns-in-None-clause-differ c = not_one c.args.self.now.region.bits (spot_answers c.args.self.now.region) c.in-None.ensures.more
