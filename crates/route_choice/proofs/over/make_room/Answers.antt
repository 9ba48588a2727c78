use Rattle.std.proofs.Common.{None}
use Rattle.route_choice.proofs.Rooms.{new_key, absent, present}
use Rattle.route_choice.proofs.Kept.{key_added, key_there, taken_back}
use Rattle.route_choice.proofs.over.make_room.Goals as goal

pub returns-in-Err-clause-err_ranks : goal.returns-in-Err-clause-err_ranks
returns-in-Err-clause-err_ranks c = taken_back _ _ _ c.args.rank.now c.in_ok-is_new.is_new c.in_ok-is_new.ensures.added c.in_ok-is_new.ensures.updates.0 c.take_back.ensures

pub returns-in-Ok-clause-offers : goal.returns-in-Ok-clause-offers
returns-in-Ok-clause-offers c = new_key _ _ c.args.key.now (absent c.get.result _ c.is_none.result c.get.ensures.value c.is_none.ensures c.if-is_none.true) c.in-Ok.ensures.updates.0

pub returns-in-Ok-clause-paths : goal.returns-in-Ok-clause-paths
returns-in-Ok-clause-paths c = key_added _ _ c.args.key.now None c.in-Ok.ensures.updates.0

pub returns-else-is_none-clause-paths : goal.returns-else-is_none-clause-paths
returns-else-is_none-clause-paths c = key_there _ c.args.key.now (present c.get.result _ c.is_none.result c.get.ensures.value c.is_none.ensures c.if-is_none.false)
