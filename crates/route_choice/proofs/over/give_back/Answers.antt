use Rattle.std.proofs.Common.{ap, Some, ◌∙◌}
use Rattle.route_choice.proofs.Kept.{gave_back}
use Rattle.route_choice.proofs.over.give_back.Goals as goal

pub returns-in-Put-clause-kept : goal.returns-in-Put-clause-kept
returns-in-Put-clause-kept c =
    gave_back _ _ _ _ c.new-key.result c.rank.result c.in-Put.via c.in-Put.prefix c.in-Put.path c.in-Put.field-3 c.args.earlier c.args.plan.now (c.in-Some.is ∙ ap Some c.in-Put.is) c.new-key.ensures c.rank.ensures c.give_back_rank.ensures.indexed c.give_back_rank.ensures.serve c.give_back_rank.ensures.room
    c.give_back_key.ensures.offers c.give_back_key.ensures.serve c.give_back_key.ensures.room
