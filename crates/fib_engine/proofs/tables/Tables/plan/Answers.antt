use Rattle.std.proofs.Common.{sym, subst}
use Rattle.fib_engine.specs.Tables.{AreAlike, Both}
use Rattle.fib_engine.proofs.Moving.{alike_for}
use Rattle.fib_engine.proofs.tables.Tables.plan.Goals as goal

pub plan-requires-clause-alike : goal.plan-requires-clause-alike
plan-requires-clause-alike c =
    let b = subst (λ (b : Both). AreAlike b) (sym c.self.view_is) c.requires.alike in
    alike_for c.args.fewest c.route_of.result c.self.inside.v4 b.0

pub plan-requires-2-clause-alike : goal.plan-requires-2-clause-alike
plan-requires-2-clause-alike c =
    let b = subst (λ (b : Both). AreAlike b) (sym c.self.view_is) c.requires.alike in
    alike_for c.args.fewest c.route_of-2.result c.self.inside.v6 b.1
