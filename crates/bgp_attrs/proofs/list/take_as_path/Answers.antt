use Rattle.std.proofs.Common.{Bool, sym, ap, subst, ◌∙◌}
use Rattle.std.specs.Prelude.{not}
use Rattle.std.proofs.lemmas.Result.{err_from_is_err_and}
use Rattle.octet_fields.specs.Gives.{Gives}
use Rattle.wire_model.specs.Path.{as_size, path_of}
use Rattle.bgp_attrs.specs.Views.{path_as}
use Rattle.bgp_attrs.proofs.Judging.{path_fault}
use Rattle.bgp_attrs.proofs.list.take_as_path.Goals as goal

pub returns-in_err-judge : goal.returns-in_err-judge
returns-in_err-judge c =
    let p = err_from_is_err_and c.from_residual.result c.from_residual.ensures.1 in
    let read = subst (λ (wide : Bool). Gives path_as c.read_path.result (path_of (as_size wide) c.args.value.now)) c.has_wide_as.ensures c.read_path.ensures in
    rw (p.1, p.2) (path_fault c.args.place c.args.found.now c.args.value.now c.read_path.result _ (c.is_none.ensures ∙ ap not c.if-is_none.true) read (sym c.judge.ensures ∙ c.in_err-judge.was))
