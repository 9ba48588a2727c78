use Rattle.fib_prefix.proofs.Peers.{peer_is}
use Rattle.fib_prefix.proofs.laws.peer_order_law.Goals as goal

pub returns : goal.returns
returns c = peer_is
