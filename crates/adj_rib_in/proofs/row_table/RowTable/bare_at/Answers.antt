use Rattle.std.proofs.Common.{ap, sym}
use Rattle.std.specs.Prelude.{option_map}
use Rattle.adj_rib_in.specs.Slots.{RowsAndSlots}
use Rattle.adj_rib_in.specs.Slots.{rowless}
use Rattle.adj_rib_in.proofs.Runs.{slot_read, slot_unread, bare_there, no_slot_there}
use Rattle.adj_rib_in.proofs.row_table.RowTable.bare_at.Goals as goal

pub returns-in-Some : goal.returns-in-Some
returns-in-Some c = bare_there c.self.inside.rows.items c.self.inside.slots.items c.args.self.now.slots c.args.at c.in-Some.slot.now (ap (λ (t : RowsAndSlots). t.slots) c.self.view_is) (slot_read _ c.self.inside.slots.items c.args.at c.in-Some.slot.now c.deref.ensures.value c.in-Some.ensures.lookup.3.0 c.in-Some.ensures.lookup.1)

pub returns-in-None : goal.returns-in-None
returns-in-None c = sym (ap (option_map rowless) (no_slot_there c.self.inside.rows.items c.self.inside.slots.items c.args.self.now.slots c.args.at (ap (λ (t : RowsAndSlots). t.slots) c.self.view_is) (slot_unread _ c.self.inside.slots.items c.args.at c.deref.ensures.value c.in-None.ensures.lookup.3)))
