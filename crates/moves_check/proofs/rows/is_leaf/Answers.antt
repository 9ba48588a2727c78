use Rattle.std.proofs.Common.{◌≡◌, sym, ap, subst, ◌∙◌, true}
use Rattle.std.specs.Prelude.{◌&&◌}
use Rattle.table_model.specs.declared.family.Family.{Family}
use Rattle.cert_model.specs.Verdict.{all_get}
use Rattle.cert_check.specs.Runs.{RunsTell}
use Rattle.fib_addr.specs.Views.{prefix_as}
use Rattle.moves_model.specs.Demands.{none_below}
use Rattle.moves_check.proofs.rows.is_leaf.Goals as goal

pub returns-then-holds : goal.returns-then-holds
returns-then-holds c = λ R T t.
    let a = c.args.against.now in
    let p = prefix_as c.args.prefix.now in
    let r : RunsTell c.args.prefix.now.family R a.runs.now = subst (λ (f : Family). RunsTell f R a.runs.now) (sym c.requires.family) t.runs in
    let x : true ≡ all_get R p c.args.hop.0 = sym c.if-holds.true ∙ c.holds.ensures R r in
    c.is_bare.ensures ∙ (t.below p ∙ ap (λ b. b && none_below T p) x)
