use Rattle.std.proofs.Common.{ap, sym, subst}
use Rattle.adj_rib_in.specs.Slots.{RowsAndSlots}
use Rattle.adj_rib_in.specs.RowLists.{AreOrdered}
use Rattle.adj_rib_in.proofs.row_table.RowTable.find.Goals as goal

pub find-requires : goal.find-requires
find-requires c = subst AreOrdered (sym (ap (λ (t : RowsAndSlots). t.items) c.self.view_is)) c.requires
