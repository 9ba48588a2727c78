use Rattle.std.proofs.Common.{map}
use Rattle.cert_model.specs.Views.{row_as}
use Rattle.moves_check.specs.Views.{AreRowsOf}
use Rattle.moves_tests.proofs.common.rows_of.Given as goal

abbrev pub invariant-loop-step : goal.invariant-loop-step
invariant-loop-step l = AreRowsOf l.family (map row_as l.list.items)
