use Rattle.std.proofs.Common.{◌≡◌, sym, ◌∙◌, arith}
use Rattle.route_choice.proofs.AllRoutes.{no_row_here}
use Rattle.route_choice.proofs.AllPrefixes.{no_rows_yet, row_pushed, rows_pushed}
use Rattle.route_choice.proofs.prefixes.add_rows.Goals as goal
use Rattle.route_choice.proofs.prefixes.add_rows.Goals.{in-Some+in_ok-push, in_default}

pub loop-row-init : goal.loop-row-init
loop-row-init c = no_rows_yet c.args.flat.now.rows.items c.args.prefixes.now.items

pub loop-row-preserved : goal.loop-row-preserved
loop-row-preserved c = elim c.match-prefix_of.branch [
  | in-Some+in_ok-push w ↦
      let e : c.match-prefix_of.prefixes.items ≡ w.push.new.self.items = cc in
      e ∙ row_pushed c.args.flat.now.rows.items c.loop-row.row w.in-Some.prefix c.args.prefixes.now.items c.loop-row.prefixes.items w.push.new.self.items (sym w.in-Some.is ∙ c.prefix_of.ensures) w.in_ok-push.ensures.items c.loop-row.invariant
  | in_default w ↦ absurd (no_row_here c.args.flat.now.rows.items c.loop-row.row (sym w.in_default.is ∙ c.prefix_of.ensures) (omega (arith, c.loop-row-test.true, c.row_count-row-end.ensures)))
]

pub returns : goal.returns
returns c = rows_pushed c.args.flat.now.rows.items c.loop-row.row c.args.prefixes.now.items c.loop-row.prefixes.items (omega (arith, c.loop-row-test.false, c.row_count-row-end.ensures)) c.loop-row.invariant
