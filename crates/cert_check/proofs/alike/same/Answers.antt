use Rattle.std.proofs.Common.{map}
use Rattle.std.proofs.lemmas.Result.{IfOk-weaker}
use Rattle.fib_addr.specs.Views.{entry_as}
use Rattle.cert_check.proofs.Sames.{answers}
use Rattle.cert_check.proofs.alike.same.Goals as goal

pub returns-clause-none : goal.returns-clause-none
returns-clause-none c =
    let R = map entry_as c.args.a.now in
    IfOk-weaker c.first_differ.result _ _ (λ d e. (answers R (map entry_as c.args.b.now) d (e R c.in_ok-runs.ensures.tells)).0) c.first_differ.ensures

pub returns-clause-least : goal.returns-clause-least
returns-clause-least c =
    let R = map entry_as c.args.a.now in
    IfOk-weaker c.first_differ.result _ _ (λ d e. (answers R (map entry_as c.args.b.now) d (e R c.in_ok-runs.ensures.tells)).1) c.first_differ.ensures

pub returns-clause-answers : goal.returns-clause-answers
returns-clause-answers c =
    let R = map entry_as c.args.a.now in
    IfOk-weaker c.first_differ.result _ _ (λ d e. (answers R (map entry_as c.args.b.now) d (e R c.in_ok-runs.ensures.tells)).2) c.first_differ.ensures
