use Rattle.std.proofs.Common.{None}
use Rattle.route_choice.proofs.Kept.{made_room, kept_ranks, both_ok, both_err}
use Rattle.route_choice.proofs.over.make_room_for.Goals as goal

pub returns-in-Put-clause-kept : goal.returns-in-Put-clause-kept
returns-in-Put-clause-kept c =
    both_ok c.make_room.result c.make_room.ensures.paths c.make_room.ensures.ranks
    (λ s r. made_room _ _ _ _ c.new-key.result c.rank.result c.in-Put.via c.in-Put.prefix c.in-Put.path c.in-Put.field-3 c.new-key.ensures c.rank.ensures c.make_room.ensures.offers s r c.args.elem.now c.in-Put.is)

pub returns-in-Put-clause-err : goal.returns-in-Put-clause-err
returns-in-Put-clause-err c = both_err c.make_room.result c.make_room.ensures.err_paths c.make_room.ensures.err_ranks (λ s r plan. kept_ranks _ _ _ _ None plan s r)
