use Rattle.std.proofs.Common.{ap, refl, ◌≡◌, ◌<◌, length, arith, rules}
use Rattle.std.specs.Vec.{vec_len}
use Rattle.adj_rib_in.specs.Slots.{RowsAndSlots}
use Rattle.adj_rib_in.specs.Flat.{with_attrs}
use Rattle.adj_rib_in.proofs.Runs.{count_of, slot_read, slot_written}
use Rattle.adj_rib_in.proofs.row_table.RowTable.set.Goals as goal

pub index-slot-requires : goal.index-slot-requires
index-slot-requires c =
    let n : vec_len c.self.inside.slots ≡ length c.self.inside.slots.items = search rules in
    omega (arith, n, c.requires, count_of c.self.inside.rows.items c.self.inside.slots.items c.args.self.now.slots (ap (λ (t : RowsAndSlots). t.slots) c.self.view_is))

pub index_mut-requires : goal.index_mut-requires
index_mut-requires c =
    let n : vec_len c.self.inside.slots ≡ length c.self.inside.slots.items = search rules in
    omega (arith, n, c.requires, count_of c.self.inside.rows.items c.self.inside.slots.items c.args.self.now.slots (ap (λ (t : RowsAndSlots). t.slots) c.self.view_is))

pub returns-clause-slots : goal.returns-clause-slots
returns-clause-slots c =
    let l : c.args.at < length c.self.inside.slots.items = omega (arith, c.requires, count_of c.self.inside.rows.items c.self.inside.slots.items c.args.self.now.slots (ap (λ (t : RowsAndSlots). t.slots) c.self.view_is)) in
    slot_written c.self.inside.rows.items c.self.inside.slots.items c.args.self.now.slots c.args.at c.index-slot.result.now _ (with_attrs c.args.path c.args.hop) (ap (λ (t : RowsAndSlots). t.slots) c.self.view_is) (slot_read c.self.inside.slots.items c.self.inside.slots.items c.args.at c.index-slot.result.now refl l c.index-slot.ensures) refl
