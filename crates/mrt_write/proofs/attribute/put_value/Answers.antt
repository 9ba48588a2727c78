use Rattle.std.proofs.Common.{◌++◌, length, ap, ◌∙◌, arith}
use Rattle.wire_model.specs.Octets.{behind_length}
use Rattle.wire_model.proofs.Written.{last_put, after_put}
use Rattle.mrt_write.proofs.Written.{three_behind, value_short, value_long}
use Rattle.mrt_write.proofs.attribute.put_value.Goals as goal

pub returns-in_ok-push-3 : goal.returns-in_ok-push-3
returns-in_ok-push-3 c =
    let head = three_behind c.args.out.now.items c.push.new.self.items c.push-then-value-lt256.new.self.items c.push-then-value-lt256-2.new.self.items 64 2 (length c.args.value.now) c.in_ok-push.ensures.items c.in_ok-push-2.ensures.items c.in_ok-push-3.ensures.items in
    last_put c.extend_from_slice.result c.extend_from_slice.new.self.items c.push-then-value-lt256-2.new.self.items c.args.value.now _ c.extend_from_slice.ensures.items
    (ap (λ xs. xs ++ c.args.value.now) head ∙ value_short c.args.out.now.items c.args.value.now (omega arith))

pub returns-in_ok-extend_from_slice : goal.returns-in_ok-extend_from_slice
returns-in_ok-extend_from_slice c =
    after_put c.put_behind_length.result c.put_behind_length.new.out.items c.extend_from_slice-else-value-lt256.new.self.items (behind_length c.args.value.now) _ c.put_behind_length.ensures
    (ap (λ xs. xs ++ behind_length c.args.value.now) c.in_ok-extend_from_slice.ensures.items ∙ value_long c.args.out.now.items c.args.value.now (omega arith))
