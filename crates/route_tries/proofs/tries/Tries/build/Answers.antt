use Rattle.std.proofs.Common.{◌≡◌, Result, Err, ap, sym, ◌∙◌}
use Rattle.std.proofs.lemmas.Result.{err_from_is_err_and}
use Rattle.route_tries.specs.Sizes.{sizes_as, shortage_as}
use Rattle.route_tries.specs.declared.tries.TriesError.{TriesError}
use Rattle.route_tries.proofs.Short.{both_fit, first_full, second_full}
use Rattle.route_tries.proofs.tries.Tries.build.Goals as goal

is_same : {T : Type 0} {x y : TriesError} → (let r : Result T TriesError = Err x in r) ≡ Err y → x ≡ y
is_same e = cc

pub returns-in_err-v4-clause-full : goal.returns-in_err-v4-clause-full
returns-in_err-v4-clause-full c = λ full is.
    let p = err_from_is_err_and c.from_residual.result c.from_residual.ensures.1 in
    let e = is_same (sym p.1 ∙ is) in
    let q : p.0 ≡ c.in_err-v4.field-0.0 = p.2 in
    first_full (sizes_as c.args.sizes.now) c.args.v4_tree.now.family c.args.v6_tree.now.family c.args.v4_tree.now.routes c.args.v6_tree.now.routes c.requires.v4 c.requires.v6 (shortage_as full) (c.in_err-v4.ensures.full full (ap Err (sym q ∙ e)))

pub returns-in_err-v6-clause-full : goal.returns-in_err-v6-clause-full
returns-in_err-v6-clause-full c = λ full is.
    let p = err_from_is_err_and c.from_residual-in_err-v6.result c.from_residual-in_err-v6.ensures.1 in
    let e = is_same (sym p.1 ∙ is) in
    let q : p.0 ≡ c.in_err-v6.field-0.0 = p.2 in
    second_full (sizes_as c.args.sizes.now) c.args.v4_tree.now.family c.args.v6_tree.now.family c.args.v4_tree.now.routes c.args.v6_tree.now.routes c.requires.v4 c.requires.v6 (shortage_as full) c.in_ok-v4.ensures.fits (c.in_err-v6.ensures.full full (ap Err (sym q ∙ e)))

pub returns-clause-fits : goal.returns-clause-fits
returns-clause-fits c = both_fit (sizes_as c.args.sizes.now) c.args.v4_tree.now.family c.args.v6_tree.now.family c.args.v4_tree.now.routes c.args.v6_tree.now.routes c.requires.v4 c.requires.v6 c.in_ok-v4.ensures.fits c.in_ok-v6.ensures.fits
