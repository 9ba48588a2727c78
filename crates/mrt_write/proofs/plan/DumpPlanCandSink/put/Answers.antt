use Rattle.std.proofs.Common.{[], ◌∷◌, map, sym, ap, ◌∙◌}
use Rattle.std.specs.Prelude.{◌||◌}
use Rattle.std.specs.Option.{option_or}
use Rattle.fib_prefix.specs.Views.{cand_as, peer_as}
use Rattle.mrt_write.specs.Checkpoint.{has_ids}
use Rattle.mrt_write.specs.Saved.{long_one}
use Rattle.mrt_write.proofs.Gathered.{gather_more, gather_same}
use Rattle.mrt_write.proofs.Indices.{present}
use Rattle.mrt_write.proofs.Known.{ids_behind, long_behind}
use Rattle.mrt_write.proofs.Meeting.{put_among}
use Rattle.mrt_write.proofs.plan.DumpPlanCandSink.put.Goals as goal

pub returns-then-has-clause-takes : goal.returns-then-has-clause-takes
returns-then-has-clause-takes c = λ cs k.
    let cand = c.args.cand.now in
    let keys = c.args.self.now.peers.keys in
    record {
      peers = gather_same keys cs cand (present keys cand.via.peer c.requires.sorted (c.has.ensures (map peer_as keys) c.requires.among c.if-has.true)) k.peers;
      ids = c.any_id-self.ensures ∙ (ap (λ b. b || has_ids (cand_as cand ∷ [])) k.ids ∙ sym (ids_behind cs cand));
      long = c.keep_long.ensures ∙ (ap (λ o. option_or o (long_one (cand_as cand ∷ []))) k.long ∙ sym (long_behind cs cand));
    }

pub returns-clause-ready : goal.returns-clause-ready
returns-clause-ready c =
    let keys = c.args.self.now.peers.keys in
    let new = c.insert.new.self.keys in
    let both = put_among keys new c.args.self.now.met.places.items c.args.cand.now c.in_ok-insert.ensures.keys c.requires.among in
    record { sorted = c.in_ok-insert.ensures.ordered; among = c.in_ok-put.ensures (map peer_as new) both.0 both.1 }

pub returns-clause-takes : goal.returns-clause-takes
returns-clause-takes c = λ cs k.
    let cand = c.args.cand.now in
    record {
      peers = gather_more c.args.self.now.peers.keys c.insert.new.self.keys cs cand c.in_ok-insert.ensures.keys k.peers;
      ids = c.any_id-self.ensures ∙ (ap (λ b. b || has_ids (cand_as cand ∷ [])) k.ids ∙ sym (ids_behind cs cand));
      long = c.keep_long.ensures ∙ (ap (λ o. option_or o (long_one (cand_as cand ∷ []))) k.long ∙ sym (long_behind cs cand));
    }
