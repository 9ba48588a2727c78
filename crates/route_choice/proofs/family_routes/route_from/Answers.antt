use Rattle.std.proofs.Common.{[], sym, ◌∙◌, arith}
use Rattle.std.specs.Prelude.{option_map}
use Rattle.std.specs.Option.{option_to_list}
use Rattle.fib_addr.specs.Views.{entry_as}
use Rattle.adj_rib_in.specs.Flat.{paths_over}
use Rattle.route_choice.specs.Walks.{rows_from}
use Rattle.route_choice.proofs.AllRoutes.{is_row, no_row_here}
use Rattle.route_choice.proofs.FamilyWalks.{none_in, none_listed, row_left, rows_end}
use Rattle.route_choice.proofs.family_routes.route_from.Goals as goal
use Rattle.route_choice.proofs.family_routes.route_from.Goals.{in-Some+else-is_some, in_default}

pub route_in-route-requires-clause-row : goal.route_in-route-requires-clause-row
route_in-route-requires-clause-row c = is_row c.args.flat.now.rows.items c.loop-row.row c.in-Some.prefix (sym c.in-Some.is ∙ c.prefix_of.ensures)

pub returns-then-is_some-clause-left : goal.returns-then-is_some-clause-left
returns-then-is_some-clause-left c = λ over a n.
    c.loop-row.invariant over a n
    ∙ row_left c.args.family c.args.hops.now.list (paths_over c.args.flat.now over) c.args.flat.now.rows.items c.loop-row.row c.in-Some.prefix (option_to_list (option_map entry_as c.route_in-route.result)) (sym c.in-Some.is ∙ c.prefix_of.ensures) (c.route_in-route.ensures over a n)

pub loop-row-preserved : goal.loop-row-preserved
loop-row-preserved c = λ over a n. elim c.match-prefix_of.branch [
  | in-Some+else-is_some w ↦
      c.loop-row.invariant over a n
      ∙ row_left c.args.family c.args.hops.now.list (paths_over c.args.flat.now over) c.args.flat.now.rows.items c.loop-row.row w.in-Some.prefix [] (sym w.in-Some.is ∙ c.prefix_of.ensures) (none_listed w.route_in-route.result (sym w.is_some.ensures ∙ w.if-is_some.false) ∙ w.route_in-route.ensures over a n)
  | in_default w ↦ absurd (no_row_here c.args.flat.now.rows.items c.loop-row.row (sym w.in_default.is ∙ c.prefix_of.ensures) (omega (arith, c.loop-row-test.true, c.row_count-row-end.ensures)))
]

pub returns-clause-none : goal.returns-clause-none
returns-clause-none c = λ over. none_in c.args.family c.args.hops.now.list (paths_over c.args.flat.now over) (rows_from c.row_count.result c.args.flat.now.rows.items) (rows_end c.args.flat.now.rows.items c.row_count.result (omega (arith, c.row_count.ensures)))
