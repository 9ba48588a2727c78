use Rattle.std.proofs.Common.{◌≡◌, ◌++◌, drop, map}
use Rattle.std.specs.Prelude.{flat_map}
use Rattle.fib_prefix.specs.Views.{peer_as}
use Rattle.mrt_write.specs.Entries.{table_peer}
use Rattle.mrt_write.proofs.peers.put_table.Given as goal

abbrev pub invariant-loop-peer : goal.invariant-loop-peer
invariant-loop-peer l = l.out.items ++ flat_map table_peer (map peer_as (drop l.peer-index l.peers)) ≡ l.initial.out.items ++ flat_map table_peer (map peer_as l.peers)
