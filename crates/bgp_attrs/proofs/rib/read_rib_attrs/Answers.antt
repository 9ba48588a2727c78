use Rattle.std.proofs.Common.{refl}
use Rattle.std.proofs.lemmas.Result.{err_from_is_err_and}
use Rattle.wire_model.specs.Attribute.{attributes, nothing_found}
use Rattle.octet_fields.proofs.Steps.{left_at_start, left_after, left_at_fault, left_at_end}
use Rattle.bgp_attrs.proofs.rib.read_rib_attrs.Goals as goal

pub loop-rest-init : goal.loop-rest-init
loop-rest-init c = rw c.none.ensures (left_at_start _ nothing_found c.args.bytes.now)

pub loop-rest-preserved : goal.loop-rest-preserved
loop-rest-preserved c = left_after _ _ _ _ _ _ c.in_ok-rest.ensures.value c.in_ok-rest.ensures.shorter c.loop-rest.invariant

pub returns-in_err-rest : goal.returns-in_err-rest
unfolding attributes
returns-in_err-rest c =
    let p = err_from_is_err_and c.from_residual.result c.from_residual.ensures.1 in
    rw (p.1, p.2, left_at_fault _ _ _ _ _ c.in_err-rest.ensures.value c.loop-rest-test.ensures c.loop-rest.invariant) refl

pub returns : goal.returns
unfolding attributes
returns c = rw (left_at_end _ _ _ _ c.loop-rest-test.ensures c.loop-rest.invariant, c.attrs_of.ensures) refl
