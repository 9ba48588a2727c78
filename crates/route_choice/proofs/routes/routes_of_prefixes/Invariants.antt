use Rattle.std.proofs.Common.{◌≡◌, ◌++◌, drop}
use Rattle.std.specs.Prelude.{map}
use Rattle.fib_addr.specs.Views.{route_as}
use Rattle.adj_rib_in.specs.Flat.{paths_over}
use Rattle.route_choice.specs.Walks.{routes_at}
use Rattle.route_choice.proofs.routes.routes_of_prefixes.Given as goal

abbrev pub invariant-loop-prefix : goal.invariant-loop-prefix
invariant-loop-prefix l = map route_as l.routes.items ++ routes_at (paths_over l.flat l.paths.entries) (drop l.prefix-index l.prefixes) ≡ routes_at (paths_over l.flat l.paths.entries) l.prefixes
