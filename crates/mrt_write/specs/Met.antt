-- Peers that were met before.
use Rattle.std.specs.Prelude.{◌≡◌, true, List}
use Rattle.std.specs.List.{AllByRecursion, list_any}
use Rattle.route_model.specs.Events.{Peer, same_peer}
use Rattle.fib_prefix.specs.Views.{peer_as}
use Rattle.mrt_write.specs.declared.met.Met.{Met}

-- each is one of these
abbrev pub AreAmong : List Peer → Met → Type 0
AreAmong peers m = AllByRecursion (λ q. list_any (same_peer (peer_as q)) peers ≡ true) m.places.items
