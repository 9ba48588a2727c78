use Rattle.fib_prefix.proofs.Peers.{via_is}
use Rattle.fib_prefix.proofs.laws.via_order_law.Goals as goal

pub returns : goal.returns
returns c = via_is
