use Rattle.std.proofs.Common.{◌∙◌}
use Rattle.std.specs.Prelude.{option_map}
use Rattle.fib_addr.specs.Views.{prefix_as}
use Rattle.smalta_keep.proofs.Holding.{held_family, held_kept}
use Rattle.smalta_keep.proofs.Knowing.{known_undone, former_places}
use Rattle.smalta_keep.proofs.keep.Keep.undo.Goals as goal

pub invariant_of-self : goal.invariant_of-self
invariant_of-self c =
    let k = c.self.inside.tree in
    let p = c.put_back_planned.ensures in
    let t = c.trim_last.ensures in
    let l = c.trim_left.ensures in
    let m = c.trim_left-2.ensures in
    let v = c.keep.new.self.tree in
    known_undone c.args.repair.former k c.trim_left-2.new.tree v c.keep-2.new.self.tree c.family-family.ensures.order.0
    (former_places c.args.repair.former c.former_prefix-2.result v c.keep-2.new.self.tree c.former_prefix-2.ensures c.keep-2.ensures) (held_kept (option_map prefix_as c.self.inside.held) k c.self.inside.dirty.tree v c.keep.ensures c.self.invariant)
    (m.family ∙ (l.family ∙ (t.family ∙ p.keeps.family))) (m.routes ∙ (l.routes ∙ (t.routes ∙ p.routes))) (m.entries ∙ (l.entries ∙ (t.entries ∙ p.keeps.entries)))

pub keep-requires : goal.keep-requires
keep-requires c = held_family c.self.inside.held c.self.inside.tree c.self.inside.dirty.tree c.self.invariant
