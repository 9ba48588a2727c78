use Rattle.std.proofs.Common.{ℕ, ◌++◌, ap, ◌∙◌}
use Rattle.std.proofs.lemmas.Result.{on_ok_weaker}
use Rattle.wire_model.specs.Octets.{number_octets}
use Rattle.made_input.proofs.Records.{peer_put}
use Rattle.made_input.proofs.dump.put_peer.Goals as goal

pub returns : goal.returns
returns c =
    on_ok_weaker c.put_u32.result (λ e. e ∙ (ap (λ (n : ℕ). c.extend_from_slice-2.new.self.items ++ number_octets 4 n) c.peer_as.ensures ∙ peer_put c.args.out.now.items c.push.new.self.items c.extend_from_slice.new.self.items c.extend_from_slice-2.new.self.items c.peer_octets-address.result c.args.peer c.peer_octets-address.ensures c.in_ok-push.ensures.items c.in_ok-extend_from_slice.ensures.items c.in_ok-extend_from_slice-2.ensures.items)) c.put_u32.ensures
