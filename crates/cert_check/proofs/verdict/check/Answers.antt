use Rattle.std.proofs.Common.{map, sym, ap, ◌∙◌}
use Rattle.std.specs.Prelude.{option_map}
use Rattle.cert_model.specs.Right.{IsCertificate}
use Rattle.cert_model.specs.Verdict.{verdict}
use Rattle.cert_model.proofs.Verdicts.{verdict_is, verdict_from}
use Rattle.cert_model.proofs.Rules.{soundness_law}
use Rattle.fib_addr.specs.Views.{entry_as}
use Rattle.cert_check.specs.Views.{no_as}
use Rattle.cert_check.proofs.Counts.{some_not_none}
use Rattle.cert_check.proofs.verdict.check.Goals as goal

pub returns-in-None-clause-right : goal.returns-in-None-clause-right
returns-in-None-clause-right c =
    let rows = c.args.rows.now in
    let R = map entry_as c.args.routes.now in
    let T = map entry_as c.args.table.now in
    verdict_is R T rows c.rows.ensures.fit (ap (verdict R T) (sym c.rows.ensures.all) ∙ (sym c.in_ok-first_wrong.ensures ∙ ap (option_map no_as) c.in-None.is))

pub returns-in-None-clause-least : goal.returns-in-None-clause-least
returns-in-None-clause-least c =
    let rows = c.args.rows.now in
    let R = map entry_as c.args.routes.now in
    let T = map entry_as c.args.table.now in
    let right : IsCertificate (map entry_as c.args.routes.now) (map entry_as c.args.table.now) c.args.rows.now =
    verdict_is R T rows c.rows.ensures.fit (ap (verdict R T) (sym c.rows.ensures.all) ∙ (sym c.in_ok-first_wrong.ensures ∙ ap (option_map no_as) c.in-None.is))
    in
    soundness_law R T rows right

pub returns-in-Some-clause-wrong : goal.returns-in-Some-clause-wrong
returns-in-Some-clause-wrong c = λ right.
    let rows = c.args.rows.now in
    let R = map entry_as c.args.routes.now in
    let T = map entry_as c.args.table.now in
    let none = verdict_from R T rows right in
    some_not_none (no_as c.in-Some.no) (ap (option_map no_as) (sym c.in-Some.is) ∙ (c.in_ok-first_wrong.ensures ∙ (ap (verdict R T) c.rows.ensures.all ∙ none)))
