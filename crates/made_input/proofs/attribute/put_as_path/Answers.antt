use Rattle.std.proofs.lemmas.Result.{on_ok_weaker}
use Rattle.made_input.proofs.Written.{path_put}
use Rattle.made_input.proofs.attribute.put_as_path.Goals as goal

pub returns : goal.returns
returns c = on_ok_weaker c.put_sequence.result (path_put c.args.out.now.items c.extend_from_slice.new.self.items c.put_sequence.new.out.items c.args.asn c.args.count c.in_ok-extend_from_slice.ensures.items) c.put_sequence.ensures
