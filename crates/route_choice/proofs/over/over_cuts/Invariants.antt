use Rattle.route_choice.proofs.Finds.{AtPaths}
use Rattle.route_choice.proofs.over.over_cuts.Given as goal

abbrev pub invariant-loop-key : goal.invariant-loop-key
invariant-loop-key l = record {
  next : (goal.iterator-loop-key).can_next l.key-iterator;
  finite : (goal.iterator-loop-key).is_finite l.key-iterator;
  walk : AtPaths l.peer l.paths.entries l.cuts.items l.key-iterator;
}
