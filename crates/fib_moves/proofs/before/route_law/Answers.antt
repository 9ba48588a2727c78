use Rattle.fib_moves.proofs.Routed.{routed_before}
use Rattle.fib_moves.proofs.before.route_law.Goals as goal

pub returns : goal.returns
returns c = routed_before
