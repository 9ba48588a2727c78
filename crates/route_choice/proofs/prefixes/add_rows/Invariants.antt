use Rattle.std.proofs.Common.{◌≡◌, ◌++◌}
use Rattle.route_choice.proofs.AllRoutes.{first_rows}
use Rattle.route_choice.proofs.prefixes.add_rows.Given as goal

abbrev pub invariant-loop-row : goal.invariant-loop-row
invariant-loop-row l = l.prefixes.items ≡ l.fn.prefixes.items ++ first_rows l.row l.flat.rows.items
