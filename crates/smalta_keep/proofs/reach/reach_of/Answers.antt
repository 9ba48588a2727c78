use Rattle.std.proofs.Common.{◌≡◌, sym, ap, ◌∙◌}
use Rattle.table_model.specs.Address.{Prefix}
use Rattle.table_model.specs.Halves.{is_within}
use Rattle.kept_model.specs.Between.{place_of}
use Rattle.fib_addr.specs.Views.{prefix_as}
use Rattle.smalta_keep.proofs.Making.{one_at}
use Rattle.smalta_keep.proofs.Near.{within_more}
use Rattle.smalta_keep.proofs.reach.reach_of.Goals as goal

pub join-reach-requires : goal.join-reach-requires
join-reach-requires c =
    ap (λ (p : Prefix). p.family) c.place_of.ensures
    ∙ (one_at (λ d. (place_of d).family ≡ c.args.prefix.now.family) c.args.changes.now c.loop-change.change-index c.change-item.result c.loop-change-test.true c.change-item.is c.requires ∙ sym c.loop-change.invariant.family)

pub loop-change-preserved : goal.loop-change-preserved
loop-change-preserved c = record {
  family = c.join-reach.ensures.family ∙ c.loop-change.invariant.family;
  within = within_more (prefix_as c.loop-change.reach) (prefix_as c.join-reach.result) c.args.changes.now c.loop-change.change-index c.change-item.result c.loop-change-test.true c.change-item.is c.join-reach.ensures.left c.loop-change.invariant.within
      (ap (λ (p : Prefix). is_within p (prefix_as c.join-reach.result)) (sym c.place_of.ensures) ∙ c.join-reach.ensures.right);
}
