use Rattle.std.proofs.Common.{refl}
use Rattle.route_choice.proofs.RankWays.{ways_start, ways_past, ways_end}
use Rattle.route_choice.proofs.over.has_no_rank.Goals as goal

pub returns-in-Some : goal.returns-in-Some
returns-in-Some c = λ t ways.
    let start = ways_start c.args.paths.now.entries c.args.prefix.now ways c.first.result c.args.ranks.now.keys c.range.result c.range.result c.requires c.range.ensures.ordered (c.range.ensures.between tt) refl c.first.ensures.prefix c.first.ensures.least in
    ways_past c.args.paths.now.entries c.args.prefix.now ways ways c.range.result c.in-Some.rank.now _ start c.in-Some.ensures.steps c.prefix.result c.prefix.ensures c.ne.result c.ne.ensures t

pub returns-in-None : goal.returns-in-None
returns-in-None c = λ t ways.
    let start = ways_start c.args.paths.now.entries c.args.prefix.now ways c.first.result c.args.ranks.now.keys c.range.result c.range.result c.requires c.range.ensures.ordered (c.range.ensures.between tt) refl c.first.ensures.prefix c.first.ensures.least in
    ways_end c.args.paths.now.entries c.args.prefix.now ways ways c.range.result start c.in-None.ensures.steps.0
