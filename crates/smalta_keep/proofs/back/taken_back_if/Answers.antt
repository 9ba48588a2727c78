use Rattle.std.proofs.Common.{◌≡◌, map, ap, ◌∙◌}
use Rattle.kept_model.specs.Between.{place_of}
use Rattle.fib_delta.specs.Views.{change_as}
use Rattle.smalta_keep.proofs.Making.{one_at}
use Rattle.smalta_keep.proofs.Near.{back_more}
use Rattle.smalta_keep.proofs.back.taken_back_if.Goals as goal

pub take_back-requires : goal.take_back-requires
take_back-requires c = one_at (λ d. (place_of d).family ≡ c.args.tree.now.family) c.args.changes.now c.loop-change.change-index c.change-item.result c.loop-change-test.true c.change-item.is c.requires

pub loop-change-preserved : goal.loop-change-preserved
loop-change-preserved c =
    ap (map change_as) c.in_ok-push.ensures.items
    ∙ back_more c.args.tree.now.entries c.loop-change.back.items c.args.changes.now c.loop-change.change-index c.change-item.result c.take_back.result c.loop-change-test.true c.change-item.is c.loop-change.invariant c.take_back.ensures
