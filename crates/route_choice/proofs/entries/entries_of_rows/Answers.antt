use Rattle.std.proofs.Common.{◌≡◌, sym, ap, ◌∙◌, arith}
use Rattle.std.specs.Prelude.{map}
use Rattle.fib_addr.specs.Views.{entry_as}
use Rattle.adj_rib_in.specs.Flat.{paths_over}
use Rattle.route_choice.proofs.AllRoutes.{is_row, no_row_here}
use Rattle.route_choice.proofs.AllEntries.{nothing_best, row_entry, entries_start, entries_end}
use Rattle.route_choice.proofs.entries.entries_of_rows.Goals as goal
use Rattle.route_choice.proofs.entries.entries_of_rows.Goals.{in-Some+in_ok-push_entry, in_default}

pub loop-row-init : goal.loop-row-init
loop-row-init c = λ over a n. entries_start c.args.hops.now.list (paths_over c.args.flat.now over) c.args.flat.now.rows.items _ c.in_ok-entries.ensures.items

pub loop-row-preserved : goal.loop-row-preserved
loop-row-preserved c = λ over a n. elim c.match-prefix_of.branch [
  | in-Some+in_ok-push_entry w ↦
      let e : c.match-prefix_of.entries.items ≡ w.push_entry.new.entries.items = cc in
      ap (map entry_as) e ∙ row_entry c.args.hops.now.list (paths_over c.args.flat.now over) c.args.flat.now.rows.items c.loop-row.row (map entry_as c.loop-row.entries.items) (map entry_as w.push_entry.new.entries.items) w.in-Some.prefix (sym w.in-Some.is ∙ c.prefix_of.ensures) (w.in_ok-push_entry.ensures (paths_over c.args.flat.now over) (w.best_in-best.ensures over a (nothing_best over w.in-Some.prefix n))) (c.loop-row.invariant over a n)
  | in_default w ↦ absurd (no_row_here c.args.flat.now.rows.items c.loop-row.row (sym w.in_default.is ∙ c.prefix_of.ensures) (omega (arith, c.loop-row-test.true, c.row_count-row-end.ensures)))
]

pub returns : goal.returns
returns c = λ over a n. entries_end c.args.hops.now.list (paths_over c.args.flat.now over) c.args.flat.now.rows.items c.loop-row.row (map entry_as c.loop-row.entries.items) (omega (arith, c.loop-row-test.false, c.row_count-row-end.ensures)) (c.loop-row.invariant over a n)

pub best_in-best-requires-clause-row : goal.best_in-best-requires-clause-row
best_in-best-requires-clause-row c = is_row c.args.flat.now.rows.items c.loop-row.row c.in-Some.prefix (sym c.in-Some.is ∙ c.prefix_of.ensures)
