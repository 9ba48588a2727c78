use Rattle.std.proofs.Common.{ap}
use Rattle.adj_rib_in.specs.Slots.{placed_from}
use Rattle.adj_rib_in.proofs.row_table.RowTable.new.Goals as goal

pub returns-clause-slots : goal.returns-clause-slots
unfolding placed_from
returns-clause-slots c = ap (placed_from c.new.result.items 0) c.new-2.ensures.items
