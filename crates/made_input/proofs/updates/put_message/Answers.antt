use Rattle.wire_model.proofs.Written.{last_put}
use Rattle.made_input.proofs.Records.{message_put}
use Rattle.made_input.proofs.updates.put_message.Goals as goal

pub returns : goal.returns
returns c =
    last_put c.extend_from_slice-2.result c.extend_from_slice-2.new.self.items c.push.new.self.items c.args.update.now _ c.extend_from_slice-2.ensures.items
    (message_put c.args.out.now.items c.extend_from_slice.new.self.items c.put_u16.new.out.items c.push.new.self.items c.args.update.now c.in_ok-extend_from_slice.ensures.items c.in_ok-put_u16.ensures c.in_ok-push.ensures.items)
