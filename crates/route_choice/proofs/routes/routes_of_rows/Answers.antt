use Rattle.std.proofs.Common.{◌≡◌, sym, ap, ◌∙◌, arith}
use Rattle.std.specs.Prelude.{map}
use Rattle.fib_addr.specs.Views.{route_as}
use Rattle.adj_rib_in.specs.Flat.{paths_over}
use Rattle.route_choice.proofs.AllRoutes.{is_row, row_route, rows_start, rows_end, no_row_here}
use Rattle.route_choice.proofs.routes.routes_of_rows.Goals as goal
use Rattle.route_choice.proofs.routes.routes_of_rows.Goals.{in-Some+in_ok-push_route, in_default}

pub loop-row-init : goal.loop-row-init
loop-row-init c = rows_start (paths_over c.args.flat.now c.args.paths.now.entries) c.args.flat.now.rows.items _ c.new-routes.ensures.items

pub loop-row-preserved : goal.loop-row-preserved
loop-row-preserved c = elim c.match-prefix_of.branch [
  | in-Some+in_ok-push_route w ↦
      let e : c.match-prefix_of.routes.items ≡ w.push_route.new.routes.items = cc in
      ap (map route_as) e ∙ row_route (paths_over c.args.flat.now c.args.paths.now.entries) c.args.flat.now.rows.items c.loop-row.row (map route_as c.loop-row.routes.items) (map route_as w.push_route.new.routes.items) w.in-Some.prefix (sym w.in-Some.is ∙ c.prefix_of.ensures) (w.in_ok-push_route.ensures (paths_over c.args.flat.now c.args.paths.now.entries) w.best_of_row-best.ensures) c.loop-row.invariant
  | in_default w ↦ absurd (no_row_here c.args.flat.now.rows.items c.loop-row.row (sym w.in_default.is ∙ c.prefix_of.ensures) (omega (arith, c.loop-row-test.true, c.row_count-row-end.ensures)))
]

pub returns : goal.returns
returns c = rows_end (paths_over c.args.flat.now c.args.paths.now.entries) c.args.flat.now.rows.items c.loop-row.row (map route_as c.loop-row.routes.items) (omega (arith, c.loop-row-test.false, c.row_count-row-end.ensures)) c.loop-row.invariant

pub best_of_row-best-requires-clause-row : goal.best_of_row-best-requires-clause-row
best_of_row-best-requires-clause-row c = is_row c.args.flat.now.rows.items c.loop-row.row c.in-Some.prefix (sym c.in-Some.is ∙ c.prefix_of.ensures)
