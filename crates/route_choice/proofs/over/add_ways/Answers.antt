use Rattle.route_choice.proofs.RankWays.{ways_start, ways_past, ways_more, ways_end}
use Rattle.route_choice.proofs.over.add_ways.Goals as goal

pub loop-rank-init : goal.loop-rank-init
loop-rank-init c = record {
  next = tt;
  finite = tt;
  walk = ways_start c.args.paths.now.entries c.args.prefix.now c.args.ways.now.entries c.first.result c.args.ranks.now.keys c.range-rank-items.result _ c.requires c.range-rank-items.ensures.ordered (c.range-rank-items.ensures.between tt) c.into_iter-rank-iterator.ensures.into_iter_gives c.first.ensures.prefix c.first.ensures.least;
}

pub returns-then-ne : goal.returns-then-ne
returns-then-ne c = ways_past c.args.paths.now.entries c.args.prefix.now c.args.ways.now.entries c.loop-rank.ways.entries c.loop-rank.rank-iterator c.in-Some.rank.now _ c.loop-rank.invariant.walk c.in-Some.ensures.steps c.prefix.result c.prefix.ensures c.ne.result c.ne.ensures c.if-ne.true

pub loop-rank-preserved : goal.loop-rank-preserved
loop-rank-preserved c = record {
  next = tt;
  finite = tt;
  walk = ways_more c.args.paths.now.entries c.args.prefix.now c.args.ways.now.entries c.loop-rank.ways.entries c.loop-rank.rank-iterator c.in-Some.rank.now _ c.loop-rank.invariant.walk c.in-Some.ensures.steps c.prefix.result c.prefix.ensures c.ne.result c.ne.ensures c.if-ne.false c.add_ranked.new.ways.entries c.in_ok-add_ranked.ensures;
}

pub returns : goal.returns
returns c = ways_end c.args.paths.now.entries c.args.prefix.now c.args.ways.now.entries c.loop-rank.ways.entries c.loop-rank.rank-iterator c.loop-rank.invariant.walk c.in-None.ensures.steps.0
