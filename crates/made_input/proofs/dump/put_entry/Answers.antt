use Rattle.std.proofs.Common.{◌++◌, length, ap, ◌∙◌, arith}
use Rattle.made_input.specs.Draws.{state_after}
use Rattle.made_input.specs.Drawn.{DrawnRoute, DrawnOffer, route, attrs}
use Rattle.wire_model.specs.Octets.{record_octets}
use Rattle.made_input.specs.Files.{rib_body}
use Rattle.made_input.proofs.MadeReading.{length-rib}
use Rattle.made_input.specs.Views.{drawn_route_as, drawn_attrs_as}
use Rattle.made_input.proofs.Drawing.{state-add}
use Rattle.made_input.proofs.Records.{alone}
use Rattle.made_input.proofs.Following.{is_route, is_attrs}
use Rattle.made_input.proofs.dump.put_entry.Goals as goal

pub put_record-requires : goal.put_record-requires
put_record-requires c =
    let body = c.deref.ensures.value ∙ alone c.clear.new.self.items c.put_rib.new.out.items (rib_body c.args.number (drawn_route_as c.draw-route.result) (drawn_attrs_as c.draw-attrs.result)) c.clear.ensures.items c.in_ok-put_rib.ensures in
    omega (arith, ap length body, length-rib c.args.number (drawn_route_as c.draw-route.result) (drawn_attrs_as c.draw-attrs.result) (is_route c.draw-route.result) (is_attrs c.draw-attrs.result))

pub returns-clause-put : goal.returns-clause-put
returns-clause-put c =
    let body = c.deref.ensures.value ∙ alone c.clear.new.self.items c.put_rib.new.out.items (rib_body c.args.number (drawn_route_as c.draw-route.result) (drawn_attrs_as c.draw-attrs.result)) c.clear.ensures.items c.in_ok-put_rib.ensures in
    let drawn = c.draw-attrs.ensures.value ∙ ap attrs c.draw-route.ensures.state in
    c.in_ok-put_record.ensures ∙ (ap (λ xs. c.args.out.now.items ++ record_octets 13 2 xs) body
    ∙ (ap (λ (r : DrawnRoute). c.args.out.now.items ++ record_octets 13 2 (rib_body c.args.number r (drawn_attrs_as c.draw-attrs.result))) c.draw-route.ensures.value
    ∙ ap (λ (o : DrawnOffer). c.args.out.now.items ++ record_octets 13 2 (rib_body c.args.number (route c.args.from.now.state) o)) drawn))

pub returns-clause-state : goal.returns-clause-state
returns-clause-state c = c.draw-attrs.ensures.state ∙ (ap (λ s. state_after s 2) c.draw-route.ensures.state ∙ state-add c.args.from.now.state 3 2)
