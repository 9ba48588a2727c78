use Rattle.std.proofs.Common.{ap, sym, ◌∙◌, ◌++◌, ◌∷◌, [], length}
use Rattle.adj_rib_in.specs.Slots.{RowsAndSlots}
use Rattle.adj_rib_in.specs.Slots.{placed_from}
use Rattle.adj_rib_in.proofs.Runs.{placed_push}
use Rattle.adj_rib_in.proofs.row_table.RowTable.push_slot.Goals as goal

pub returns-clause-ok : goal.returns-clause-ok
returns-clause-ok c =
    ap (placed_from c.self.inside.rows.items 0) (c.in_ok-push.ensures.items ∙ ap (λ s. c.self.inside.slots.items ++ s ∷ []) c.of.ensures)
    ∙ (placed_push c.self.inside.rows.items c.self.inside.slots.items c.args.slot.now c.self.invariant (c.requires ∙ ap (λ (t : RowsAndSlots). length t.items) (sym c.self.view_is)) ∙ ap (λ zs. zs ++ c.args.slot.now ∷ []) (ap (λ (t : RowsAndSlots). t.slots) c.self.view_is))
