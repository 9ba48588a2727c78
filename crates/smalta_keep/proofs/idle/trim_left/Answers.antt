use Rattle.std.proofs.Common.{◌≡◌, sym, ◌∙◌}
use Rattle.kept_model.specs.Between.{place_of}
use Rattle.smalta_keep.proofs.Making.{one_at}
use Rattle.smalta_keep.proofs.idle.trim_left.Goals as goal

pub trim_last-requires : goal.trim_last-requires
trim_last-requires c = λ p e.
    c.place_left.ensures p e
    ∙ (one_at (λ d. (place_of d).family ≡ c.args.tree.now.family) c.args.changes.now c.loop-change.change-index c.change-item.result c.loop-change-test.true c.change-item.is c.requires ∙ sym c.loop-change.invariant.family)
