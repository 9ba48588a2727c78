use Rattle.std.proofs.Common.{◌+◌, ◌*◌, ◌++◌, ap, ◌∙◌}
use Rattle.wire_model.specs.Octets.{as_path_octets}
use Rattle.wire_model.proofs.Written.{after_put}
use Rattle.mrt_write.proofs.Written.{three_behind}
use Rattle.mrt_write.proofs.Lengths.{short_put}
use Rattle.mrt_write.proofs.attribute.put_short_path.Goals as goal

pub returns : goal.returns
returns c =
    let value = as_path_octets c.args.asn c.args.path in
    let head = three_behind c.args.out.now.items c.push.new.self.items c.push-2.new.self.items c.push-3.new.self.items 64 2 (4 * c.args.path + 2) c.in_ok-push.ensures.items c.in_ok-push-2.ensures.items c.in_ok-push-3.ensures.items in
    after_put c.put_sequence.result c.put_sequence.new.out.items c.push-3.new.self.items value _ c.put_sequence.ensures
    (ap (λ xs. xs ++ value) head ∙ short_put c.args.out.now.items c.args.asn c.args.path c.requires.some c.requires.short)
