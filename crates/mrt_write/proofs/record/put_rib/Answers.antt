use Rattle.std.proofs.Common.{◌≡◌, ap, sym, ◌∙◌, ◌++◌, ◌%◌, ◌^◌, arith}
use Rattle.table_model.specs.Address.{Prefix}
use Rattle.fib_addr.specs.Views.{prefix_as}
use Rattle.wire_model.specs.Octets.{number_octets, record_octets}
use Rattle.mrt_write.proofs.Written.{on_ok, body_is, body_few, record_is}
use Rattle.mrt_write.proofs.record.put_rib.Goals as goal

pub put_record-requires : goal.put_record-requires
put_record-requires c =
    let few = body_few c.clear.new.self.items c.put_u32.new.out.items c.put_prefix.new.out.items c.put_u16.new.out.items c.deref.result.now c.args.entries.now c.args.number c.args.count (prefix_as c.args.prefix.now) c.clear.ensures.items c.in_ok-put_u32.ensures c.in_ok-put_prefix.ensures c.in_ok-put_u16.ensures (c.deref.ensures.value ∙ c.in_ok-extend_from_slice.ensures.items) in
    omega (arith, few, c.requires)

pub returns : goal.returns
returns c =
    let small : c.args.number % 2 ^ 32 ≡ c.args.number = omega arith in
    let first = c.in_ok-put_u32.ensures ∙ ap (λ n. c.clear.new.self.items ++ number_octets 4 n) (sym small) in
    on_ok c.put_record.result c.put_record.ensures (λ put peers p prefix count entries.
    record_is c.put_record.new.out.items c.args.out.now.items c.deref.result.now c.args.number c.args.ids c.args.prefix.now.family peers p
    (put ∙ ap (λ s. c.args.out.now.items ++ record_octets 13 s c.deref.result.now) c.subtype_of.ensures) (ap (λ (q : Prefix). q.family) prefix)
    (body_is c.clear.new.self.items c.put_u32.new.out.items c.put_prefix.new.out.items c.put_u16.new.out.items c.deref.result.now c.args.entries.now c.args.number c.args.count c.args.ids (prefix_as c.args.prefix.now) peers p c.clear.ensures.items first c.in_ok-put_prefix.ensures c.in_ok-put_u16.ensures (c.deref.ensures.value ∙ c.in_ok-extend_from_slice.ensures.items) prefix count entries))
