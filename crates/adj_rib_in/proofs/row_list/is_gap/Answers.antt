use Rattle.adj_rib_in.proofs.RowLists.{no_row_beside}
use Rattle.adj_rib_in.proofs.row_list.is_gap.Goals as goal

pub returns-then-is_before : goal.returns-then-is_before
returns-then-is_before c = λ e. no_row_beside c.args.rows.now c.args.prefix.now c.args.at (c.is_before.ensures c.if-is_before.true) (c.is_after.ensures e)
