use Rattle.std.proofs.Common.{◌≡◌, length, ap, ◌∙◌, rules}
use Rattle.adj_rib_in.specs.Slots.{RowsAndSlots}
use Rattle.adj_rib_in.proofs.Runs.{count_of}
use Rattle.adj_rib_in.proofs.row_table.RowTable.slot_count.Goals as goal

pub returns : goal.returns
returns c = let n : c.len.result ≡ length c.self.inside.slots.items = search rules in n ∙ count_of c.self.inside.rows.items c.self.inside.slots.items c.args.self.now.slots (ap (λ (t : RowsAndSlots). t.slots) c.self.view_is)
