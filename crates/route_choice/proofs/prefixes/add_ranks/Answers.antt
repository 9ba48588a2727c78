use Rattle.route_choice.proofs.AllPrefixes.{rank_pushed, ranks_pushed}
use Rattle.route_choice.proofs.prefixes.add_ranks.Goals as goal

pub loop-rank-preserved : goal.loop-rank-preserved
loop-rank-preserved c = record {
  next = tt;
  finite = tt;
  told = rank_pushed c.loop-rank.prefixes.items c.push.new.self.items _ c.prefix.result c.in-Some.rank.now c.loop-rank.rank-iterator c.next.new.self c.in-Some.ensures.steps c.prefix.ensures c.in_ok-push.ensures.items c.loop-rank.invariant.told;
}

pub returns : goal.returns
returns c = ranks_pushed c.loop-rank.prefixes.items _ c.loop-rank.rank-iterator c.in-None.ensures.steps.0 c.loop-rank.invariant.told
