use Rattle.std.proofs.Common.{◌≡◌}
use Rattle.table_model.specs.declared.family.Family.TheVariants.{V4}
use Rattle.table_tests.proofs.least.tree_of.Given as goal

abbrev pub invariant-loop-bits : goal.invariant-loop-bits
invariant-loop-bits l = l.tree.family ≡ V4

abbrev pub invariant-loop-bits-2 : goal.invariant-loop-bits-2
invariant-loop-bits-2 l = l.tree.family ≡ V4
