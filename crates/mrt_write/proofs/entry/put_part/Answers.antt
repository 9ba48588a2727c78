use Rattle.std.proofs.Common.{length, ap, arith}
use Rattle.mrt_write.specs.Entries.{attributes_of}
use Rattle.mrt_write.proofs.Attributes.{length-attributes}
use Rattle.fib_prefix.specs.Views.{cand_as}
use Rattle.mrt_write.proofs.Written.{part_is}
use Rattle.mrt_write.proofs.entry.put_part.Goals as goal

pub put_behind_length-requires : goal.put_behind_length-requires
put_behind_length-requires c =
    let part = part_is c.deref.result.now c.put_attributes-2.new.out.items c.clear.new.self.items (attributes_of (cand_as c.args.cand.now)) c.deref.ensures.value c.in_ok-put_attributes.ensures c.clear.ensures.items in
    omega (arith, ap length part, length-attributes (cand_as c.args.cand.now) c.requires)
