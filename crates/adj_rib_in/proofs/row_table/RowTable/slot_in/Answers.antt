use Rattle.std.proofs.Common.{ap, sym}
use Rattle.adj_rib_in.specs.Slots.{RowsAndSlots}
use Rattle.adj_rib_in.proofs.Runs.{slot_read, slot_unread, slot_there, no_slot_there, run_row, run_inside}
use Rattle.adj_rib_in.proofs.row_table.RowTable.slot_in.Goals as goal

pub returns-in-Some-clause-slot : goal.returns-in-Some-clause-slot
returns-in-Some-clause-slot c = slot_there c.self.inside.rows.items c.self.inside.slots.items c.args.self.now.slots c.args.at c.args.row c.in-Some.slot.now c.in_row.result (ap (λ (t : RowsAndSlots). t.slots) c.self.view_is) (slot_read _ c.self.inside.slots.items c.args.at c.in-Some.slot.now c.deref.ensures.value c.in-Some.ensures.lookup.3.0 c.in-Some.ensures.lookup.1)
    (run_row c.self.inside.rows.items c.args.row _ c.args.at c.self.invariant (run_inside c.self.inside.rows.items c.args.self.now.items c.self.inside.slots.items c.args.self.now.slots c.args.row c.args.at (ap (λ (t : RowsAndSlots). t.items) c.self.view_is) (ap (λ (t : RowsAndSlots). t.slots) c.self.view_is) c.requires)) c.in_row.ensures

pub returns-in-None-clause-slot : goal.returns-in-None-clause-slot
returns-in-None-clause-slot c = sym (no_slot_there c.self.inside.rows.items c.self.inside.slots.items c.args.self.now.slots c.args.at (ap (λ (t : RowsAndSlots). t.slots) c.self.view_is) (slot_unread _ c.self.inside.slots.items c.args.at c.deref.ensures.value c.in-None.ensures.lookup.3))
