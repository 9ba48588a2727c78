use Rattle.std.proofs.Common.{OnOk, true, ap, subst, ◌∙◌}
use Rattle.table_model.specs.Both.{aggregate_in_both}
use Rattle.fib_engine.specs.FinalFib.{Rests}
use Rattle.fib_engine.specs.Tables.{both_routes}
use Rattle.fib_engine.proofs.Taking.{both_least}
use Rattle.fib_engine.proofs.final_fib.FinalFib.emit_least.Goals as goal

pub returns-clause-takes : goal.returns-clause-takes
returns-clause-takes g c =
    let b = c.self.inside.tables in
    subst (λ least. OnOk c.emit_least.result (g.S.EntrySink.takes c.args.out.now least c.emit_least.new.out))
    (both_least (both_routes b) true b c.self.invariant.v4 c.self.invariant.v6 ∙ ap (λ (r : Rests). aggregate_in_both r.routes r.table) c.self.view_is) c.emit_least.ensures.takes
