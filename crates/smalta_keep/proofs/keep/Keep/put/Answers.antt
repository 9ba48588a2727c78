use Rattle.std.proofs.Common.{Some, sym, subst, ◌∙◌}
use Rattle.std.specs.Prelude.{option_map}
use Rattle.fib_addr.specs.Views.{prefix_as}
use Rattle.orig_tree.specs.Views.{Labels}
use Rattle.smalta_keep.specs.KnownBelow.{IsKnown}
use Rattle.smalta_keep.proofs.Holding.{held_family, held_kept}
use Rattle.smalta_keep.proofs.Knowing.{known_more, known_touched, known_planned}
use Rattle.smalta_keep.proofs.keep.Keep.put.Goals as goal

pub invariant_of-self-then-eq : goal.invariant_of-self-then-eq
invariant_of-self-then-eq c =
    let k = c.self.inside.tree in
    let u = c.mark.new.self.tree in
    let marked = known_touched (prefix_as c.args.prefix.now) k c.keep.new.self.tree u c.in_ok-mark.ensures.marked (held_kept (option_map prefix_as c.self.inside.held) k c.self.inside.dirty.tree c.keep.new.self.tree c.keep.ensures c.self.invariant) in
    known_planned (Some (c.args.prefix.now, c.args.hop)) k c.trim.new.self u c.family-family.ensures.order.0 marked (c.trim.ensures.family ∙ c.set.ensures.keeps.family)
    (c.trim.ensures.routes ∙ c.in_ok-set.ensures.routes) (c.trim.ensures.entries ∙ c.set.ensures.keeps.entries)

pub invariant_of-self-else-eq : goal.invariant_of-self-else-eq
invariant_of-self-else-eq c =
    let k = c.self.inside.tree in
    let u = c.mark.new.self.tree in
    let marked = known_touched (prefix_as c.args.prefix.now) k c.keep.new.self.tree u c.in_ok-mark.ensures.marked (held_kept (option_map prefix_as c.self.inside.held) k c.self.inside.dirty.tree c.keep.new.self.tree c.keep.ensures c.self.invariant) in
    known_planned (Some (c.args.prefix.now, c.args.hop)) k c.set.new.tree u c.family-family.ensures.order.0 marked c.set.ensures.keeps.family c.in_ok-set.ensures.routes c.set.ensures.keeps.entries

pub keep-requires : goal.keep-requires
keep-requires c = held_family c.self.inside.held c.self.inside.tree c.self.inside.dirty.tree c.self.invariant

pub invariant_of-self : goal.invariant_of-self
invariant_of-self c =
    let k = c.self.inside.tree in
    let t = c.keep.new.self.tree in
    known_more k t c.mark.new.self.tree c.mark.ensures.more (held_kept (option_map prefix_as c.self.inside.held) k c.self.inside.dirty.tree t c.keep.ensures c.self.invariant)

pub invariant_of-self-in_err-set : goal.invariant_of-self-in_err-set
invariant_of-self-in_err-set c =
    let k = c.self.inside.tree in
    let t = c.keep.new.self.tree in
    let u = c.mark.new.self.tree in
    subst (λ (l : Labels). IsKnown l u) (sym c.in_err-set.ensures.err) (known_more k t u c.mark.ensures.more (held_kept (option_map prefix_as c.self.inside.held) k c.self.inside.dirty.tree t c.keep.ensures c.self.invariant))
