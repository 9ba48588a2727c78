-- The orders that the code gives peers and path sources.
use Rattle.std.specs.declared.cmp.Ordering.{Ordering}
use Rattle.fib_prefix.specs.declared.event.Peer.{Peer}
use Rattle.fib_prefix.specs.declared.event.Via.{Via}
use Rattle.fib_prefix.specs.contracts.event.PeerOrd.TheImpl as peer_ord
use Rattle.fib_prefix.specs.contracts.event.ViaOrd.TheImpl as via_ord

-- what `cmp` of peers answers; by the order law it is the order of peers
abbrev pub code_peer_cmp : Peer → Peer → Ordering
code_peer_cmp = (peer_ord.ghosts).cmp

-- what `cmp` of path sources answers; by the order law it is the order of path sources
abbrev pub code_via_cmp : Via → Via → Ordering
code_via_cmp = (via_ord.ghosts).cmp
