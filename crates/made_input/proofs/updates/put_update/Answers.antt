use Rattle.std.proofs.Common.{◌++◌, ◌%◌, length, ap, ◌∙◌, arith}
use Rattle.std.specs.Prelude.{◌==◌}
use Rattle.std.proofs.lemmas.Result.{on_ok_weaker}
use Rattle.made_input.specs.Draws.{state_after}
use Rattle.made_input.specs.Drawn.{attrs}
use Rattle.made_input.specs.Files.{message_octets, session_body, update_body}
use Rattle.made_input.proofs.UpdatesReading.{length-update, length-message, length-session}
use Rattle.made_input.specs.Views.{drawn_route_as, drawn_attrs_as}
use Rattle.made_input.proofs.Drawing.{state-add}
use Rattle.made_input.proofs.Written.{whenever}
use Rattle.made_input.proofs.Records.{alone}
use Rattle.made_input.proofs.Following.{is_route, is_attrs, record_is, update_follows}
use Rattle.made_input.proofs.updates.put_update.Goals as goal

pub put_session-requires-clause-short : goal.put_session-requires-clause-short
put_session-requires-clause-short c =
    let r = drawn_route_as c.index-routes-pick.result in
    let o = drawn_attrs_as c.draw-attrs.result in
    let update = c.deref.ensures.value ∙ alone c.clear.new.self.items c.put_update_body.new.out.items (update_body (c.draw-2.result % 4 == 0) r o) c.clear.ensures.items c.in_ok-put_update_body.ensures in
    omega (arith, ap length update, length-update (c.draw-2.result % 4 == 0) r o (is_route c.index-routes-pick.result) (is_attrs c.draw-attrs.result))

pub put_record-requires : goal.put_record-requires
put_record-requires c =
    let session = c.deref-2.ensures.value ∙ alone c.clear-2.new.self.items c.put_session.new.out.items (session_body c.index-routes-pick.result.peer (message_octets c.deref.result.now)) c.clear-2.ensures.items c.in_ok-put_session.ensures in
    let r = drawn_route_as c.index-routes-pick.result in
    let o = drawn_attrs_as c.draw-attrs.result in
    let update = c.deref.ensures.value ∙ alone c.clear.new.self.items c.put_update_body.new.out.items (update_body (c.draw-2.result % 4 == 0) r o) c.clear.ensures.items c.in_ok-put_update_body.ensures in
    omega (arith, ap length session, length-session c.index-routes-pick.result.peer (message_octets c.deref.result.now), length-message c.deref.result.now, ap length update, length-update (c.draw-2.result % 4 == 0) r o (is_route c.index-routes-pick.result) (is_attrs c.draw-attrs.result))

pub returns-clause-put : goal.returns-clause-put
returns-clause-put c =
    let r = drawn_route_as c.index-routes-pick.result in
    let o = drawn_attrs_as c.draw-attrs.result in
    let update = c.deref.ensures.value ∙ alone c.clear.new.self.items c.put_update_body.new.out.items (update_body (c.draw-2.result % 4 == 0) r o) c.clear.ensures.items c.in_ok-put_update_body.ensures in
    let session = c.deref-2.ensures.value ∙ alone c.clear-2.new.self.items c.put_session.new.out.items (session_body c.index-routes-pick.result.peer (message_octets c.deref.result.now)) c.clear-2.ensures.items c.in_ok-put_session.ensures in
    let second = c.draw-2.ensures.state ∙ (ap (λ s. state_after s 1) c.draw.ensures.state ∙ state-add c.args.from.now.state 1 1) in
    let last = c.draw-attrs.ensures.value ∙ ap attrs second in
    on_ok_weaker c.put_record.result (λ e. e ∙ (record_is c.args.out.now.items c.deref.result.now c.deref-2.result.now (c.draw-2.result % 4 == 0) r o update session
    ∙ ap (λ xs. c.args.out.now.items ++ xs) (update_follows c.args.from.now.state c.draw.new.self.state c.args.routes.now c.draw.result c.draw-2.result c.index-routes-pick.result o c.draw.ensures.value c.draw.ensures.state c.draw-2.ensures.value c.requires c.index-routes-pick.is last))) c.put_record.ensures

pub returns-clause-state : goal.returns-clause-state
returns-clause-state c =
    let second = c.draw-2.ensures.state ∙ (ap (λ s. state_after s 1) c.draw.ensures.state ∙ state-add c.args.from.now.state 1 1) in
    whenever c.put_record.result (c.draw-attrs.ensures.state ∙ (ap (λ s. state_after s 2) second ∙ state-add c.args.from.now.state 2 2))
