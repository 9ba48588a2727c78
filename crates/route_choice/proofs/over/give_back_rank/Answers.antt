use Rattle.std.proofs.Common.{sym, ◌∙◌}
use Rattle.route_choice.proofs.Kept.{rank_room, held_rank}
use Rattle.route_choice.proofs.over.give_back_rank.Goals as goal

pub returns-then-not-holds_rank-clause-serve : goal.returns-then-not-holds_rank-clause-serve
returns-then-not-holds_rank-clause-serve c = c.prune_rank.ensures.serve _

pub returns-then-not-holds_rank-clause-room : goal.returns-then-not-holds_rank-clause-room
returns-then-not-holds_rank-clause-room c = rank_room c.args.paths.now.entries _ _ c.args.rank.now c.args.plan.now (sym c.holds_rank.ensures ∙ c.if-not-holds_rank.true) c.prune_rank.ensures.others

pub returns-else-not-holds_rank-clause-serve : goal.returns-else-not-holds_rank-clause-serve
returns-else-not-holds_rank-clause-serve c = held_rank c.args.paths.now.entries _ c.args.rank.now c.args.plan.now (sym c.holds_rank.ensures ∙ c.if-not-holds_rank.false)
