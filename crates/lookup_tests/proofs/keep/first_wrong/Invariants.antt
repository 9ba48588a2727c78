use Rattle.std.proofs.Common.{◌≡◌}
use Rattle.table_model.specs.declared.family.Family.TheVariants.{V4}
use Rattle.lookup_tests.proofs.keep.first_wrong.Given as goal

abbrev pub invariant-loop-place : goal.invariant-loop-place
invariant-loop-place l = l.keep.family ≡ V4
