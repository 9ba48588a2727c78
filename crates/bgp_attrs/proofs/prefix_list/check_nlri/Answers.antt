use Rattle.std.proofs.Common.{[]}
use Rattle.std.proofs.lemmas.Result.{err_from_is_err_and}
use Rattle.wire_model.specs.Wire.{nlris}
use Rattle.octet_fields.proofs.Steps.{left_at_start, left_at_end, one_more_left, one_more_fault}
use Rattle.bgp_attrs.proofs.prefix_list.check_nlri.Goals as goal

pub loop-rest-init : goal.loop-rest-init
unfolding nlris
loop-rest-init c = ([], left_at_start _ [] c.args.bytes.now)

pub loop-rest-preserved : goal.loop-rest-preserved
loop-rest-preserved c = (_, one_more_left _ _ _ _ _ _ c.in_ok-rest.ensures.value c.in_ok-rest.ensures.shorter c.loop-rest.invariant.1)

pub returns-in_err-rest : goal.returns-in_err-rest
returns-in_err-rest c =
    let p = err_from_is_err_and c.from_residual.result c.from_residual.ensures.1 in
    rw (p.1, p.2) (one_more_fault _ _ _ _ _ c.in_err-rest.ensures.value c.loop-rest-test.ensures c.loop-rest.invariant.1)

pub returns : goal.returns
returns c = (_, left_at_end _ _ _ _ c.loop-rest-test.ensures c.loop-rest.invariant.1)
