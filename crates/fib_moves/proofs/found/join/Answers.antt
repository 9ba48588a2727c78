use Rattle.fib_moves.specs.Views.{allowed_as}
use Rattle.fib_moves.proofs.Finding.{joined_hops}
use Rattle.fib_moves.proofs.found.join.Goals as goal

pub returns : goal.returns
returns c =
    joined_hops c.args.low.now c.args.high.now c.in_ok-found.found c.in_ok-joined.joined.hops (allowed_as c.in_ok-first.first) (allowed_as c.in_ok-second.second) c.args.under_low c.args.under_high
    c.in_ok-first.ensures c.in_ok-second.ensures c.in_ok-joined.ensures.hops c.requires.under_low c.requires.under_high c.in_ok-found.ensures
