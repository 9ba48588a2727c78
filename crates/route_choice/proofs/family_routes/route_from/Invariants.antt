use Rattle.std.proofs.Common.{◌≡◌}
use Rattle.adj_rib_in.specs.Paths.{Paths}
use Rattle.adj_rib_in.specs.Flat.{ShareNoKey, flat_paths, paths_over}
use Rattle.route_choice.specs.Walks.{OffersNothing, family_entries_at, rows_from}
use Rattle.route_choice.proofs.family_routes.route_from.Given as goal

abbrev pub invariant-loop-row : goal.invariant-loop-row
invariant-loop-row l = (over : Paths) → ShareNoKey (flat_paths l.flat) over → OffersNothing over → family_entries_at l.family l.hops.list (paths_over l.flat over) (rows_from l.from l.flat.rows.items) ≡ family_entries_at l.family l.hops.list (paths_over l.flat over) (rows_from l.row l.flat.rows.items)
