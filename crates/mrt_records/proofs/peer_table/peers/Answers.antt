use Rattle.std.proofs.Common.{ap, ◌∙◌, map}
use Rattle.std.proofs.lemmas.List.{map_push}
use Rattle.fib_prefix.specs.Views.{peer_as}
use Rattle.std.proofs.lemmas.Result.{err_from_is_err_and}
use Rattle.wire_model.specs.Rib.{peer_at}
use Rattle.octet_fields.proofs.Steps.{more_next, more_fault, times_done}
use Rattle.mrt_records.proofs.peer_table.peers.Goals as goal

pub loop-preserved : goal.loop-preserved
loop-preserved c = more_next peer_at _ _ _ _ _ _ _ _ c.loop-test.true c.in_ok-peer.ensures (ap (map peer_as) c.in_ok-push.ensures.items ∙ map_push peer_as _ _) c.loop.invariant

pub returns-in_err-peer : goal.returns-in_err-peer
returns-in_err-peer c =
    let p = err_from_is_err_and c.from_residual.result c.from_residual.ensures.1 in
    rw (p.1, p.2) (more_fault peer_at _ _ _ _ _ _ c.loop-test.true c.in_err-peer.ensures c.loop.invariant)

pub returns : goal.returns
returns c = times_done _ _ _ _ _ _ c.loop-test.false c.loop.invariant
