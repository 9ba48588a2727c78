use Rattle.route_choice.proofs.RankWays.{AtWays}
use Rattle.route_choice.proofs.over.add_ways.Given as goal

abbrev pub invariant-loop-rank : goal.invariant-loop-rank
invariant-loop-rank l = record {
  next : (goal.iterator-loop-rank).can_next l.rank-iterator;
  finite : (goal.iterator-loop-rank).is_finite l.rank-iterator;
  walk : AtWays l.paths.entries l.prefix l.fn.ways.entries l.rank-iterator l.ways.entries;
}
