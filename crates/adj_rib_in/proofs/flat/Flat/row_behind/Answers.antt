use Rattle.adj_rib_in.proofs.flat.Flat.row_behind.Goals as goal

pub open_row-requires : goal.open_row-requires
open_row-requires c = c.order_last.ensures.equal c.in-Equal.is
