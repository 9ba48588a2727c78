use Rattle.std.proofs.Common.{ap, sym, suc, ◌≡◌, ◌∙◌, length, rules, arith}
use Rattle.std.specs.Prelude.{slice_get}
use Rattle.adj_rib_in.specs.Slots.{RowsAndSlots}
use Rattle.adj_rib_in.specs.Slots.{row_at}
use Rattle.adj_rib_in.specs.Flat.{IsInRun, off_or}
use Rattle.adj_rib_in.proofs.Runs.{in_place, run_row}
use Rattle.adj_rib_in.proofs.row_table.RowTable.row_at.Goals as goal

pub returns-then-at-off_behind : goal.returns-then-at-off_behind
returns-then-at-off_behind c =
    let n : c.len-end.result ≡ length c.self.inside.slots.items = search rules in
    let x : IsInRun c.self.inside.rows.items c.args.near (length c.self.inside.slots.items) c.args.at =
    in_place c.self.inside.rows.items c.args.near (length c.self.inside.slots.items) c.off_at.result c.off_behind.result c.args.at
    (c.off_at.ensures ∙ ap (λ e. off_or e (slice_get c.self.inside.rows.items c.args.near)) n, c.off_behind.ensures ∙ ap (λ e. off_or e (slice_get c.self.inside.rows.items (suc c.args.near))) n)
    (omega (arith, c.if-off_at-at.true)) (omega (arith, c.if-at-off_behind.true)) in
    sym (run_row c.self.inside.rows.items c.args.near (length c.self.inside.slots.items) c.args.at c.self.invariant x) ∙ ap (λ (t : RowsAndSlots). row_at t.items c.args.at) c.self.view_is
