use Rattle.std.proofs.Common.{◌≡◌, ◌≤◌, length, map, None, sym, ap, ◌∙◌, arith}
use Rattle.std.specs.Prelude.{option_map}
use Rattle.std.proofs.lemmas.List.{length-map}
use Rattle.fib_prefix.specs.Views.{cand_as, peer_as}
use Rattle.mrt_write.specs.Saved.{long_one, peers_with_candidates}
use Rattle.mrt_write.proofs.Whole.{begun_ready, begun_writes}
use Rattle.mrt_write.proofs.plan.DumpPlan.begin.Goals as goal

pub returns-clause-ready : goal.returns-clause-ready
returns-clause-ready c =
    let list = c.in_ok-peers.peers.items in
    begun_ready c.in_ok-dump.dump list c.args.self.now.ids c.in_ok-dump.ensures (omega (arith, c.if-len-gt-MOST_PEERS.false)) c.in_ok-peers.ensures.sorted

pub returns-clause-answers : goal.returns-clause-answers
returns-clause-answers c = λ cs k.
    let list = c.in_ok-peers.peers.items in
    let all : map peer_as list ≡ peers_with_candidates (map cand_as cs) = ap (map peer_as) c.in_ok-peers.ensures.list ∙ k.peers in
    let len : length list ≡ length (peers_with_candidates (map cand_as cs)) = sym (length-map list peer_as) ∙ ap length all in
    let few : length list ≤ 65535 = omega (arith, c.if-len-gt-MOST_PEERS.false) in
    let short : long_one (map cand_as cs) ≡ None = sym k.long ∙ ap (λ o. option_map cand_as o) c.in_default.is in
    (omega (arith, few, len), short, begun_writes c.in_ok-dump.dump list c.args.self.now.ids cs c.in_ok-dump.ensures all k.ids short)
