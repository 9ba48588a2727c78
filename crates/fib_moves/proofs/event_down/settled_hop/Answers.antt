use Rattle.fib_moves.proofs.Settled.{settled_same, settled_filled, settled_new}
use Rattle.fib_moves.proofs.event_down.settled_hop.Goals as goal

pub returns-then-inherited : goal.returns-then-inherited
returns-then-inherited c =
    let r = c.args.region.now in
    settled_same r.bits r.entries c.args.inherited.had c.args.inherited.gets c.if-inherited.true

pub returns-then-is_filled : goal.returns-then-is_filled
returns-then-is_filled c =
    let r = c.args.region.now in
    settled_filled r.bits r.entries c.args.inherited.had c.args.inherited.gets c.is_filled.result c.is_filled.ensures c.if-is_filled.true

pub returns-else-is_filled : goal.returns-else-is_filled
returns-else-is_filled c =
    let r = c.args.region.now in
    settled_new r.bits r.entries c.args.inherited.had c.args.inherited.gets c.is_filled.result c.if-inherited.false c.is_filled.ensures c.if-is_filled.false
