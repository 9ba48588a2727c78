use Rattle.route_tries.proofs.Going.{half_answers}
use Rattle.route_tries.proofs.region.RouteRegionRegion.half.Goals as goal

pub returns-clause-answers : goal.returns-clause-answers
returns-clause-answers c = half_answers c.args.self.now.region c.half.result c.args.bit c.half.ensures.routes c.half.ensures.hop
