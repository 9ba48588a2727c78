use Rattle.std.proofs.Common.{refl, sym, ap, ◌∙◌}
use Rattle.fib_addr.specs.Order.{code_cmp}
use Rattle.adj_rib_in.proofs.RowLists.{rows_after, none_after, greater_if}
use Rattle.adj_rib_in.proofs.Runs.{slot_read, slot_unread}
use Rattle.adj_rib_in.proofs.row_list.is_after.Goals as goal

pub returns-in-Some : goal.returns-in-Some
returns-in-Some c = λ e.
    let rows = c.args.rows.now in
    let there = slot_read rows rows c.args.at c.in-Some.row.now refl c.in-Some.ensures.lookup.3.0 c.in-Some.ensures.lookup.1 in
    rows_after rows c.args.prefix.now c.requires c.args.at c.in-Some.row.now there (ap (λ p. code_cmp p c.args.prefix.now) (sym c.prefix.ensures) ∙ (sym c.cmp.ensures ∙ greater_if c.cmp.result (sym c.is_gt.ensures ∙ e)))

pub returns-in-None : goal.returns-in-None
returns-in-None c = λ _. none_after c.args.rows.now c.args.prefix.now c.requires c.args.at (slot_unread c.args.rows.now c.args.rows.now c.args.at refl c.in-None.ensures.lookup.3)
