use Rattle.std.proofs.Common.{◌≡◌}
use Rattle.table_model.specs.declared.family.Family.TheVariants.{V4}
use Rattle.table_tests.proofs.tree.tree_of.Given as goal

abbrev pub invariant-loop-change : goal.invariant-loop-change
invariant-loop-change l = l.tree.family ≡ V4
