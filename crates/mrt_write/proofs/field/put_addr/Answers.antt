use Rattle.std.proofs.Common.{ap, ◌∙◌, ◌++◌}
use Rattle.table_model.specs.declared.family.Family.TheVariants.{V4, V6}
use Rattle.fib_addr.specs.Views.{addr_as}
use Rattle.wire_model.specs.Octets.{number_octets, address_octets}
use Rattle.wire_model.proofs.Written.{after_put, last_put}
use Rattle.mrt_write.proofs.Written.{addr_written}
use Rattle.mrt_write.proofs.field.put_addr.Goals as goal

pub returns-in-V4 : goal.returns-in-V4
unfolding number_octets
returns-in-V4 c =
    after_put c.put_u32.result c.put_u32.new.out.items c.args.out.now.items _ (c.args.out.now.items ++ address_octets (addr_as c.args.addr.now)) c.put_u32.ensures
    (ap (λ xs. c.args.out.now.items ++ xs) (addr_written c.args.addr.now V4 c.in-V4.is))

pub returns-in-V6 : goal.returns-in-V6
returns-in-V6 c =
    last_put c.extend_from_slice.result c.extend_from_slice.new.self.items c.args.out.now.items c.to_be_bytes.result (c.args.out.now.items ++ address_octets (addr_as c.args.addr.now)) c.extend_from_slice.ensures.items
    (ap (λ xs. c.args.out.now.items ++ xs) (c.to_be_bytes.ensures ∙ addr_written c.args.addr.now V6 c.in-V6.is))
