use Rattle.std.proofs.Common.{ap, sym, ◌<◌, ◌-◌, ◌^◌, ◌∙◌, length, subst}
use Rattle.adj_rib_in.specs.Slots.{RowsAndSlots}
use Rattle.adj_rib_in.proofs.Runs.{count_of, runs_pushed, slots_pushed}
use Rattle.adj_rib_in.proofs.row_table.RowTable.push.Goals as goal

pub invariant_of-self : goal.invariant_of-self
invariant_of-self c =
    runs_pushed c.push.result c.self.inside.rows.items c.push.new.self.items c.args.row (length c.self.inside.slots.items) c.push.ensures.ok c.push.ensures.err c.self.invariant
    (subst (λ rs. length rs < 2 ^ 32 - 1) (sym (ap (λ (t : RowsAndSlots). t.items) c.self.view_is)) c.requires.few) (c.requires.off ∙ sym (count_of c.self.inside.rows.items c.self.inside.slots.items c.args.self.now.slots (ap (λ (t : RowsAndSlots). t.slots) c.self.view_is)))

pub returns-clause-slots : goal.returns-clause-slots
returns-clause-slots c = slots_pushed c.push.result c.self.inside.rows.items c.push.new.self.items c.args.row c.self.inside.slots.items c.push.ensures.ok c.push.ensures.err (c.requires.off ∙ sym (count_of c.self.inside.rows.items c.self.inside.slots.items c.args.self.now.slots (ap (λ (t : RowsAndSlots). t.slots) c.self.view_is))) ∙ (ap (λ (t : RowsAndSlots). t.slots) c.self.view_is)
