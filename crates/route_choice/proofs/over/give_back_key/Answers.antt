use Rattle.std.proofs.Common.{sym, ◌∙◌}
use Rattle.route_choice.proofs.Kept.{key_room, held_key}
use Rattle.route_choice.proofs.over.give_back_key.Goals as goal

pub returns-then-not-holds_key-clause-serve : goal.returns-then-not-holds_key-clause-serve
returns-then-not-holds_key-clause-serve c = c.prune_key.ensures.serve _

pub returns-then-not-holds_key-clause-room : goal.returns-then-not-holds_key-clause-room
returns-then-not-holds_key-clause-room c = key_room _ _ c.args.key.now c.args.plan.now (sym c.holds_key.ensures ∙ c.if-not-holds_key.true) c.prune_key.ensures.others

pub returns-else-not-holds_key-clause-serve : goal.returns-else-not-holds_key-clause-serve
returns-else-not-holds_key-clause-serve c = held_key _ c.args.key.now c.args.plan.now (sym c.holds_key.ensures ∙ c.if-not-holds_key.false)
