use Rattle.std.proofs.Common.{rules, append_assoc}
use Rattle.std.proofs.lemmas.Result.{IfOk-equal}
use Rattle.mrt_write.specs.Entries.{table_peer}
use Rattle.mrt_write.proofs.peers.put_peer.Goals as goal

pub returns : goal.returns
unfolding table_peer
returns c = search (rules, IfOk-equal, append_assoc)
