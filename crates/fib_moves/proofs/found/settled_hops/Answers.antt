use Rattle.orig_tree.specs.Spots.{spot_answers}
use Rattle.fib_moves.proofs.Settled.{settled_any, settled_these}
use Rattle.fib_moves.proofs.found.settled_hops.Goals as goal

pub returns-then-is_filled : goal.returns-then-is_filled
returns-then-is_filled c =
    let r = c.args.region.now in
    settled_any r.bits (spot_answers r) r.entries c.args.inherited c.is_filled.result c.requires.right c.is_filled.ensures c.if-is_filled.true

pub returns-else-is_filled : goal.returns-else-is_filled
returns-else-is_filled c =
    let r = c.args.region.now in
    settled_these r.bits (spot_answers r) r.entries c.args.inherited c.is_filled.result c.one.result c.requires.right c.is_filled.ensures c.if-is_filled.false c.one.ensures
