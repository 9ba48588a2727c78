use Rattle.std.proofs.Common.{ℕ, ◌++◌, ap, ◌∙◌}
use Rattle.std.proofs.lemmas.Result.{on_ok_weaker}
use Rattle.wire_model.specs.Octets.{number_octets}
use Rattle.made_input.specs.Files.{message_octets}
use Rattle.made_input.proofs.Records.{session_put}
use Rattle.made_input.proofs.updates.put_session.Goals as goal

pub returns : goal.returns
returns c =
    let asn = c.in_ok-put_u32.ensures ∙ ap (λ (n : ℕ). c.args.out.now.items ++ number_octets 4 n) c.peer_as.ensures in
    on_ok_weaker c.put_message.result (λ e. e ∙ session_put c.args.out.now.items c.put_u32.new.out.items c.put_u32-2.new.out.items c.put_u16.new.out.items c.put_u16-2.new.out.items c.extend_from_slice.new.self.items c.extend_from_slice-2.new.self.items (message_octets c.args.update.now) c.peer_octets.result c.args.peer asn c.in_ok-put_u32-2.ensures c.in_ok-put_u16.ensures c.in_ok-put_u16-2.ensures c.in_ok-extend_from_slice.ensures.items c.peer_octets.ensures c.in_ok-extend_from_slice-2.ensures.items) c.put_message.ensures
