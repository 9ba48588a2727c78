use Rattle.std.proofs.Common.{true, None, refl}
use Rattle.route_choice.proofs.Rooms.{cut_at}
use Rattle.route_choice.proofs.Kept.{cut_kept, key_removed, its_pruned, none_pruned, flat_is}
use Rattle.route_choice.proofs.over.cut_attrs.Goals as goal

pub returns-in-Some-clause-offers : goal.returns-in-Some-clause-offers
returns-in-Some-clause-offers c = cut_at _ _ c.args.key.now None true refl refl c.remove.ensures.updates.0

pub returns-in_default-clause-offers : goal.returns-in_default-clause-offers
returns-in_default-clause-offers c = cut_at _ _ c.args.key.now None true refl refl c.remove.ensures.updates.0

pub returns-in-Some-clause-kept : goal.returns-in-Some-clause-kept
returns-in-Some-clause-kept c =
    cut_kept _ _ _ _ c.args.key.now c.flatten.result (flat_is _ c.args.key.now c.remove.result c.flatten.result c.remove.ensures.value c.flatten.ensures) (cut_at _ _ c.args.key.now None true refl refl c.remove.ensures.updates.0) (key_removed _ _ c.args.key.now c.remove.ensures.updates.0)
    c.prune_rank.ensures.indexed (its_pruned _ _ _ c.args.key.now c.flatten.result c.in-Some.old c.path.result c.rank.result c.in-Some.is c.path.ensures c.rank.ensures c.prune_rank.ensures.serve)

pub returns-in_default-clause-kept : goal.returns-in_default-clause-kept
returns-in_default-clause-kept c =
    cut_kept _ _ _ _ c.args.key.now c.flatten.result (flat_is _ c.args.key.now c.remove.result c.flatten.result c.remove.ensures.value c.flatten.ensures) (cut_at _ _ c.args.key.now None true refl refl c.remove.ensures.updates.0) (key_removed _ _ c.args.key.now c.remove.ensures.updates.0)
    (λ i. i) (none_pruned _ _ c.args.key.now c.flatten.result c.in_default.is)
