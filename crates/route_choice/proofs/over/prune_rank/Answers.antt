use Rattle.route_choice.proofs.Rooms.{pruned_rank}
use Rattle.route_choice.proofs.Kept.{pruned_serve, offered_serve, other_ranks}
use Rattle.route_choice.proofs.over.prune_rank.Goals as goal

pub returns-then-is_none-clause-indexed : goal.returns-then-is_none-clause-indexed
returns-then-is_none-clause-indexed c = pruned_rank c.args.paths.now.entries _ _ c.args.rank.now c.attrs_ranked.result c.attrs_ranked.ensures c.is_none.result c.is_none.ensures c.if-is_none.true c.remove.ensures.updates.0

pub returns-then-is_none-clause-serve : goal.returns-then-is_none-clause-serve
returns-then-is_none-clause-serve c = pruned_serve c.args.paths.now.entries _ _ c.args.rank.now c.remove.ensures.updates.0

pub returns-then-is_none-clause-others : goal.returns-then-is_none-clause-others
returns-then-is_none-clause-others c = other_ranks _ _ c.args.rank.now c.remove.ensures.updates.0

pub returns-else-is_none-clause-serve : goal.returns-else-is_none-clause-serve
returns-else-is_none-clause-serve c = offered_serve c.args.paths.now.entries _ c.args.rank.now c.attrs_ranked.result c.is_none.result c.attrs_ranked.ensures c.is_none.ensures c.if-is_none.false
