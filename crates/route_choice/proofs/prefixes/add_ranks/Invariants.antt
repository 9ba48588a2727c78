use Rattle.std.proofs.Common.{◌≡◌, ◌++◌}
use Rattle.route_choice.specs.Walks.{rank_prefixes}
use Rattle.route_choice.proofs.prefixes.add_ranks.Given as goal

abbrev pub invariant-loop-rank : goal.invariant-loop-rank
invariant-loop-rank l = record {
  next : (goal.iterator-loop-rank).can_next l.rank-iterator;
  finite : (goal.iterator-loop-rank).is_finite l.rank-iterator;
  told : l.prefixes.items ++ rank_prefixes l.rank-iterator ≡ l.fn.prefixes.items ++ rank_prefixes l.ranks.keys;
}
