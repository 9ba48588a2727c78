use Rattle.std.proofs.Common.{ap, sym, subst, refl, ◌≡◌, ◌<◌, ◌^◌, ◌∙◌, length, rules, arith}
use Rattle.std.specs.Vec.{vec_len}
use Rattle.adj_rib_in.specs.Slots.{RowsAndSlots}
use Rattle.adj_rib_in.specs.Slots.{row_at}
use Rattle.adj_rib_in.proofs.Runs.{count_of, row_few, slot_read, slot_there}
use Rattle.adj_rib_in.proofs.row_table.RowTable.slot_at.Goals as goal

pub index-requires : goal.index-requires
index-requires c =
    let n : vec_len c.self.inside.slots ≡ length c.self.inside.slots.items = search rules in
    omega (arith, n, c.requires, count_of c.self.inside.rows.items c.self.inside.slots.items c.args.self.now.slots (ap (λ (t : RowsAndSlots). t.slots) c.self.view_is))

pub overflow_cast-row : goal.overflow_cast-row
overflow_cast-row c =
    let l : row_at c.args.self.now.items c.args.at < 2 ^ 32 = subst (λ rs. row_at rs c.args.at < 2 ^ 32) (ap (λ (t : RowsAndSlots). t.items) c.self.view_is) (row_few c.self.inside.rows.items (length c.self.inside.slots.items) c.args.at c.self.invariant) in
    let m : c.row_at-row.result < 2 ^ 32 = subst (λ n. n < 2 ^ 32) (sym c.row_at-row.ensures) l in
    search rules

pub returns : goal.returns
returns c =
    let l : c.args.at < length c.self.inside.slots.items = omega (arith, c.requires, count_of c.self.inside.rows.items c.self.inside.slots.items c.args.self.now.slots (ap (λ (t : RowsAndSlots). t.slots) c.self.view_is)) in
    sym (slot_there c.self.inside.rows.items c.self.inside.slots.items c.args.self.now.slots c.args.at c.row_at-row.result c.index.result.now c.in_row.result (ap (λ (t : RowsAndSlots). t.slots) c.self.view_is) (slot_read c.self.inside.slots.items c.self.inside.slots.items c.args.at c.index.result.now refl l c.index.ensures)
    (ap (λ (t : RowsAndSlots). row_at t.items c.args.at) c.self.view_is ∙ sym c.row_at-row.ensures) c.in_row.ensures)
