use Rattle.std.proofs.Common.{subst, refl}
use Rattle.std.specs.Prelude.{IsSome}
use Rattle.route_choice.proofs.Rooms.{set_at, cut_at}
use Rattle.route_choice.proofs.Kept.{attrs_there, no_attrs_there}
use Rattle.route_choice.proofs.over.set_attrs.Goals as goal

pub returns-then-is_none-clause-offers : goal.returns-then-is_none-clause-offers
returns-then-is_none-clause-offers c = cut_at _ _ c.args.key.now c.args.attrs c.is_none.result c.is_none.ensures c.if-is_none.true c.remove.ensures.updates.0

pub returns-then-is_none-clause-paths : goal.returns-then-is_none-clause-paths
returns-then-is_none-clause-paths c = no_attrs_there _ _ c.args.key.now c.args.attrs c.is_none.result c.is_none.ensures c.if-is_none.true c.remove.ensures.updates.0

pub returns-in-Some-clause-offers : goal.returns-in-Some-clause-offers
returns-in-Some-clause-offers c = set_at _ _ c.args.key.now c.args.attrs ((c.get_mut.follows.holds c.args.attrs).3 (subst IsSome c.in-Some.ensures.value refl)).0

pub returns-in-Some-clause-paths : goal.returns-in-Some-clause-paths
returns-in-Some-clause-paths c = attrs_there _ _ c.args.key.now c.args.attrs c.is_none.result c.is_none.ensures c.if-is_none.false ((c.get_mut.follows.holds c.args.attrs).3 (subst IsSome c.in-Some.ensures.value refl)).0
