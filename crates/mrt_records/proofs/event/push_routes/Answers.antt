use Rattle.std.proofs.Common.{[], ◌++◌, sym, ap, ◌∙◌, append-nil, append_assoc, option_map}
use Rattle.std.specs.Prelude.{map}
use Rattle.std.proofs.lemmas.Result.{err_from_is_err_and}
use Rattle.octet_fields.proofs.Steps.{left_at_start, left_at_end, one_more_left, one_more_fault}
use Rattle.fib_addr.specs.Views.{addr_as}
use Rattle.fib_prefix.specs.Views.{peer_as, event_as}
use Rattle.wire_model.specs.Wire.{nlris}
use Rattle.bgp_attrs.specs.Gives.{nlri_as}
use Rattle.wire_model.specs.Update.{routes}
use Rattle.mrt_records.specs.UpdateViews.{said_path}
use Rattle.mrt_records.proofs.Adding.{routes_more}
use Rattle.mrt_records.proofs.event.push_routes.Goals as goal

pub loop-rest-init : goal.loop-rest-init
unfolding nlris
loop-rest-init c = ([], left_at_start _ [] c.args.area.octets.now, sym (append-nil _))

pub loop-rest-preserved : goal.loop-rest-preserved
loop-rest-preserved c =
    let i = c.loop-rest.invariant in (
      _,
      one_more_left _ _ _ _ _ _ c.in_ok-nlri.ensures.value c.in_ok-nlri.ensures.shorter i.1,
      c.in_ok-push_event.ensures
          ∙ (rw i.2 (append_assoc _ (routes (peer_as c.args.saying.peer) (said_path c.args.saying) (option_map addr_as c.args.saying.hop) i.0) _)
          ∙ ap (λ es. map event_as c.args.events.now.items ++ es) (sym (routes_more (peer_as c.args.saying.peer) (said_path c.args.saying) (option_map addr_as c.args.saying.hop) i.0 (nlri_as c.in_ok-nlri.nlri)))),
    )

pub returns-in_err-nlri : goal.returns-in_err-nlri
returns-in_err-nlri c =
    let p = err_from_is_err_and c.from_residual.result c.from_residual.ensures.1 in
    rw (p.1, p.2) (one_more_fault _ _ _ _ _ c.in_err-nlri.ensures.value c.loop-rest-test.ensures c.loop-rest.invariant.1)

pub returns : goal.returns
returns c = (_, left_at_end _ _ _ _ c.loop-rest-test.ensures c.loop-rest.invariant.1, c.loop-rest.invariant.2)
