use Rattle.std.proofs.Common.{◌≡◌}
use Rattle.std.specs.Prelude.{map}
use Rattle.fib_addr.specs.Views.{entry_as}
use Rattle.adj_rib_in.specs.Paths.{Paths}
use Rattle.adj_rib_in.specs.Flat.{ShareNoKey, flat_paths, paths_over}
use Rattle.route_choice.specs.Walks.{OffersNothing, entries_at}
use Rattle.route_choice.proofs.AllRoutes.{first_rows}
use Rattle.route_choice.proofs.entries.entries_of_rows.Given as goal

abbrev pub invariant-loop-row : goal.invariant-loop-row
invariant-loop-row l = (over : Paths) → ShareNoKey (flat_paths l.flat) over → OffersNothing over → map entry_as l.entries.items ≡ entries_at l.hops.list (paths_over l.flat over) (first_rows l.row l.flat.rows.items)
