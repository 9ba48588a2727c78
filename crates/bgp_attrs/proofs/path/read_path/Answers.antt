use Rattle.std.proofs.Common.{ap, arith}
use Rattle.std.proofs.lemmas.Result.{err_from_is_err_and}
use Rattle.wire_model.specs.Path.{Path, no_path, path_of}
use Rattle.octet_fields.proofs.Steps.{left_at_start, left_after, left_at_fault, left_at_end}
use Rattle.bgp_attrs.proofs.path.read_path.Goals as goal

pub loop-rest-init : goal.loop-rest-init
unfolding path_of
loop-rest-init c = record {
  bounded = omega (arith, ap (λ (p : Path). p.length) c.empty-path.ensures);
  left = rw c.empty-path.ensures (left_at_start _ no_path c.args.bytes.now);
}

pub loop-rest-preserved : goal.loop-rest-preserved
loop-rest-preserved c = record {
  bounded = omega (arith, c.in_ok-path.ensures.fits);
  left = left_after _ _ _ _ _ _ c.in_ok-path.ensures.value c.in_ok-path.ensures.shorter c.loop-rest.invariant.left;
}

pub returns-in_err-path : goal.returns-in_err-path
returns-in_err-path c =
    let p = err_from_is_err_and c.from_residual.result c.from_residual.ensures.1 in
    rw (p.1, p.2) (left_at_fault _ _ _ _ _ c.in_err-path.ensures.value c.loop-rest-test.ensures c.loop-rest.invariant.left)

pub returns : goal.returns
returns c = left_at_end _ _ _ _ c.loop-rest-test.ensures c.loop-rest.invariant.left
