use Rattle.std.proofs.Common.{◌≡◌}
use Rattle.std.specs.Prelude.{map}
use Rattle.fib_addr.specs.Views.{route_as}
use Rattle.adj_rib_in.specs.Flat.{paths_over}
use Rattle.route_choice.specs.Walks.{routes_at}
use Rattle.route_choice.proofs.AllRoutes.{first_rows}
use Rattle.route_choice.proofs.routes.routes_of_rows.Given as goal

abbrev pub invariant-loop-row : goal.invariant-loop-row
invariant-loop-row l = map route_as l.routes.items ≡ routes_at (paths_over l.flat l.paths.entries) (first_rows l.row l.flat.rows.items)
