use Rattle.route_choice.proofs.Finds.{AtRanks}
use Rattle.route_choice.proofs.over.best_but.Given as goal

abbrev pub invariant-loop-rank : goal.invariant-loop-rank
invariant-loop-rank l = record {
  next : (goal.iterator-loop-rank).can_next l.rank-iterator;
  finite : (goal.iterator-loop-rank).is_finite l.rank-iterator;
  walk : AtRanks l.paths.entries l.but l.prefix l.ranks.keys l.rank-iterator;
}
