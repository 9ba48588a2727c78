use Rattle.std.proofs.Common.{◌≡◌, ◌++◌}
use Rattle.std.specs.Prelude.{flat_map}
use Rattle.std.specs.List.{range_with_len}
use Rattle.made_input.specs.Files.{peer_entry}
use Rattle.made_input.proofs.dump.put_peers.Given as goal

abbrev pub invariant-loop-peer : goal.invariant-loop-peer
invariant-loop-peer l = l.out.items ≡ l.initial.out.items ++ flat_map peer_entry (range_with_len 0 l.peer)
