use Rattle.std.proofs.Common.{◌≡◌, ◌++◌, drop}
use Rattle.std.specs.Prelude.{map}
use Rattle.fib_addr.specs.Views.{entry_as}
use Rattle.adj_rib_in.specs.Flat.{paths_over}
use Rattle.route_choice.specs.Walks.{entries_at}
use Rattle.route_choice.proofs.entries.entries_of_prefixes.Given as goal

abbrev pub invariant-loop-prefix : goal.invariant-loop-prefix
invariant-loop-prefix l = map entry_as l.entries.items ++ entries_at l.hops.list (paths_over l.flat l.paths.entries) (drop l.prefix-index l.prefixes) ≡ entries_at l.hops.list (paths_over l.flat l.paths.entries) l.prefixes
