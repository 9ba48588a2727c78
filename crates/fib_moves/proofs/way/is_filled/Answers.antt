use Rattle.fib_moves.proofs.Ways.{filled_is}
use Rattle.fib_moves.proofs.way.is_filled.Goals as goal

pub returns : goal.returns
returns c =
    let r = c.args.region.now in
    filled_is c.fills.result r.bits r.entries c.requires c.fills.ensures.all c.fills.ensures.some
