use Rattle.std.proofs.Common.{◌≡◌, length, rules}
use Rattle.std.specs.Prelude.{map}
use Rattle.fib_addr.specs.Views.{route_as}
use Rattle.route_choice.proofs.AllRoutes.{by_rows, by_prefixes, no_elements}
use Rattle.route_choice.proofs.routes.routes_of.Goals as goal

pub returns-then-is_empty : goal.returns-then-is_empty
returns-then-is_empty c =
    let l : length c.args.ranks.now.keys ≡ 0 = search rules in
    by_rows c.args.flat.now c.args.paths.now.entries c.args.ranks.now.keys (map route_as c.in_ok-routes.routes.items) c.requires.flat c.requires.indexed (no_elements c.args.ranks.now.keys l) c.in_ok-routes.ensures

pub returns : goal.returns
returns c = by_prefixes c.args.flat.now c.args.paths.now.entries c.args.ranks.now.keys c.in_ok-prefixes.prefixes.items c.deref.result.now (map route_as c.in_ok-routes-2.routes.items) c.requires.indexed c.in_ok-prefixes.ensures.rows c.in_ok-prefixes.ensures.ranks c.in_ok-prefixes.ensures.sorted c.deref.ensures.value c.in_ok-routes-2.ensures
