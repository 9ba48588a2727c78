use Rattle.std.proofs.Common.{◌++◌, ap, ◌∙◌, arith}
use Rattle.std.proofs.lemmas.Result.{on_ok_weaker}
use Rattle.made_input.specs.Views.{drawn_route_as, drawn_attrs_as}
use Rattle.wire_model.specs.Octets.{number_octets}
use Rattle.made_input.specs.Files.{attrs_attributes}
use Rattle.made_input.proofs.Records.{alone, attributes_few, rib_put}
use Rattle.made_input.proofs.dump.put_rib.Goals as goal

pub put_behind_length-requires : goal.put_behind_length-requires
put_behind_length-requires c =
    let part = c.deref.ensures.value ∙ alone c.clear.new.self.items c.put_attributes.new.out.items (attrs_attributes c.args.route.now.peer (drawn_attrs_as c.args.attrs.now)) c.clear.ensures.items c.in_ok-put_attributes.ensures in
    let few = attributes_few c.deref.result.now c.args.route.now.peer (drawn_attrs_as c.args.attrs.now) c.args.attrs.now.short part in
    omega (arith, few)

pub returns : goal.returns
returns c =
    let part = c.deref.ensures.value ∙ alone c.clear.new.self.items c.put_attributes.new.out.items (attrs_attributes c.args.route.now.peer (drawn_attrs_as c.args.attrs.now)) c.clear.ensures.items c.in_ok-put_attributes.ensures in
    on_ok_weaker c.put_behind_length.result (λ e. e ∙ rib_put c.args.out.now.items c.put_u32.new.out.items c.put_prefix.new.out.items c.put_u16.new.out.items c.put_u16-2.new.out.items c.put_u32-2.new.out.items c.deref.result.now c.args.number (drawn_route_as c.args.route.now) (drawn_attrs_as c.args.attrs.now) c.in_ok-put_u32.ensures c.in_ok-put_prefix.ensures c.in_ok-put_u16.ensures (c.in_ok-put_u16-2.ensures ∙ ap (λ n. c.put_u16.new.out.items ++ number_octets 2 n) c.from.ensures) c.in_ok-put_u32-2.ensures part) c.put_behind_length.ensures
