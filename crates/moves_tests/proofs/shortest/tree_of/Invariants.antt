use Rattle.std.proofs.Common.{◌≡◌}
use Rattle.moves_tests.proofs.shortest.tree_of.Given as goal

abbrev pub invariant-loop-bits : goal.invariant-loop-bits
invariant-loop-bits l = l.tree.family ≡ l.case.family

abbrev pub invariant-loop-bits-2 : goal.invariant-loop-bits-2
invariant-loop-bits-2 l = l.tree.family ≡ l.case.family
