use Rattle.std.proofs.Common.{◌++◌, ap, sym, ◌∙◌, arith}
use Rattle.std.proofs.lemmas.Result.{on_ok_weaker}
use Rattle.made_input.specs.Views.{drawn_route_as, drawn_attrs_as}
use Rattle.wire_model.specs.Octets.{prefix_octets}
use Rattle.made_input.specs.Files.{attrs_attributes, update_body}
use Rattle.made_input.proofs.Records.{alone, attributes_few, prefix_few, withdrawal_put, announcement_put}
use Rattle.made_input.proofs.updates.put_update_body.Goals as goal

pub put_behind_length-requires : goal.put_behind_length-requires
put_behind_length-requires c =
    let part = c.deref.ensures.value ∙ alone c.clear.new.self.items c.put_prefix.new.out.items (prefix_octets (drawn_route_as c.args.route.now).prefix) c.clear.ensures.items c.in_ok-put_prefix.ensures in
    let few = prefix_few c.deref.result.now c.args.route.now.address c.args.route.now.len c.args.route.now.few part in
    omega (arith, few)

pub put_behind_length-requires-2 : goal.put_behind_length-requires-2
put_behind_length-requires-2 c =
    let part = c.deref-2.ensures.value ∙ alone c.clear.new.self.items c.put_attributes.new.out.items (attrs_attributes c.args.route.now.peer (drawn_attrs_as c.args.attrs.now)) c.clear.ensures.items c.in_ok-put_attributes.ensures in
    let few = attributes_few c.deref-2.result.now c.args.route.now.peer (drawn_attrs_as c.args.attrs.now) c.args.attrs.now.short part in
    omega (arith, few)

pub returns-then-gone : goal.returns-then-gone
returns-then-gone c =
    let part = c.deref.ensures.value ∙ alone c.clear.new.self.items c.put_prefix.new.out.items (prefix_octets (drawn_route_as c.args.route.now).prefix) c.clear.ensures.items c.in_ok-put_prefix.ensures in
    on_ok_weaker c.put_u16.result (λ e. e ∙ (withdrawal_put c.args.out.now.items c.put_behind_length.new.out.items c.deref.result.now (drawn_route_as c.args.route.now) (drawn_attrs_as c.args.attrs.now) part c.in_ok-put_behind_length.ensures
    ∙ ap (λ gone. c.args.out.now.items ++ update_body gone (drawn_route_as c.args.route.now) (drawn_attrs_as c.args.attrs.now)) (sym c.if-gone.true))) c.put_u16.ensures

pub returns : goal.returns
returns c =
    let part = c.deref-2.ensures.value ∙ alone c.clear.new.self.items c.put_attributes.new.out.items (attrs_attributes c.args.route.now.peer (drawn_attrs_as c.args.attrs.now)) c.clear.ensures.items c.in_ok-put_attributes.ensures in
    on_ok_weaker c.put_prefix-2.result (λ e. e ∙ (announcement_put c.args.out.now.items c.put_u16-2.new.out.items c.put_behind_length-2.new.out.items c.deref-2.result.now (drawn_route_as c.args.route.now) (drawn_attrs_as c.args.attrs.now) part c.in_ok-put_u16.ensures c.in_ok-put_behind_length-2.ensures
    ∙ ap (λ gone. c.args.out.now.items ++ update_body gone (drawn_route_as c.args.route.now) (drawn_attrs_as c.args.attrs.now)) (sym c.if-gone.false))) c.put_prefix-2.ensures
