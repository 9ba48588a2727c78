use Rattle.std.proofs.Common.{◌≡◌, ◌-◌, refl, arith, [], sym, ◌∙◌, append-nil, append_assoc}
use Rattle.std.proofs.lemmas.Result.{err_from_is_err_and}
use Rattle.octet_fields.proofs.Steps.{more_next, times_done}
use Rattle.mrt_records.proofs.Refusing.{refused_more}
use Rattle.mrt_records.proofs.rib.push_entries.Goals as goal

pub loop-init : goal.loop-init
loop-init c = let all : c.args.count - 0 ≡ c.args.count = omega arith in ([], rw all refl, sym (append-nil _))

pub loop-preserved : goal.loop-preserved
loop-preserved c =
    let i = c.loop.invariant in
    let e = c.in_ok-rest.ensures in (
      _,
      more_next _ _ _ _ _ _ _ _ _ c.loop-test.true e.1 refl i.1,
      e.2 ∙ rw i.2 (append_assoc _ i.0 _),
    )

pub returns-in_err-rest : goal.returns-in_err-rest
returns-in_err-rest c =
    let p = err_from_is_err_and c.from_residual.result c.from_residual.ensures.1 in
    rw (p.1, p.2) (refused_more _ _ _ _ _ c.in_err-rest.field-0.0 _ c.loop-test.true c.in_err-rest.ensures c.loop.invariant.1)

pub returns : goal.returns
returns c = (_, times_done _ _ _ _ _ _ c.loop-test.false c.loop.invariant.1, c.loop.invariant.2)
