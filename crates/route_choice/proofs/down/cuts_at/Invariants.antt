use Rattle.std.proofs.Common.{◌≡◌, ◌++◌}
use Rattle.std.specs.Prelude.{map}
use Rattle.route_choice.specs.Walks.{key_cut}
use Rattle.route_choice.proofs.down.cuts_at.Given as goal

abbrev pub invariant-loop-key : goal.invariant-loop-key
invariant-loop-key l = record {
  next : (goal.iterator-loop-key).can_next l.key-iterator;
  finite : (goal.iterator-loop-key).is_finite l.key-iterator;
  cuts : l.cuts.items ++ map key_cut l.key-iterator ≡ map key_cut l.paths.keys;
}
