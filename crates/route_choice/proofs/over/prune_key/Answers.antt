use Rattle.route_choice.proofs.Rooms.{pruned_key}
use Rattle.route_choice.proofs.Kept.{pruned_paths, offered_paths, other_paths}
use Rattle.route_choice.proofs.over.prune_key.Goals as goal

pub returns-then-is_none-clause-offers : goal.returns-then-is_none-clause-offers
returns-then-is_none-clause-offers c = pruned_key _ _ c.args.key.now c.attrs_at.result c.attrs_at.ensures c.is_none.result c.is_none.ensures c.if-is_none.true c.remove.ensures.updates.0

pub returns-then-is_none-clause-serve : goal.returns-then-is_none-clause-serve
returns-then-is_none-clause-serve c =
    pruned_paths _ _ c.args.key.now c.remove.ensures.updates.0 (pruned_key _ _ c.args.key.now c.attrs_at.result c.attrs_at.ensures c.is_none.result c.is_none.ensures c.if-is_none.true c.remove.ensures.updates.0)

pub returns-then-is_none-clause-others : goal.returns-then-is_none-clause-others
returns-then-is_none-clause-others c = other_paths _ _ c.args.key.now c.remove.ensures.updates.0

pub returns-else-is_none-clause-serve : goal.returns-else-is_none-clause-serve
returns-else-is_none-clause-serve c = offered_paths _ c.args.key.now c.attrs_at.result c.is_none.result c.attrs_at.ensures c.is_none.ensures c.if-is_none.false
