use Rattle.std.proofs.Common.{true, false, None}
use Rattle.smalta_keep.proofs.Alike.{committed, renewed_least}
use Rattle.smalta_keep.proofs.keep.Keep.snapshot.Goals as goal

pub returns-clause-least : goal.returns-clause-least
returns-clause-least c =
    let kept = c.plan.new.self in
    let new = c.commit.new.self in
    renewed_least kept.family kept.routes kept.entries new c.commit.ensures.family c.commit.ensures.routes
    (committed kept new.entries false None true c.in_ok-repair.repair.moved c.in_ok-repair.ensures.moved c.commit.ensures.table)
