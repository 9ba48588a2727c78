use Rattle.std.proofs.Common.{OnOk, true, ap, subst, ◌∙◌}
use Rattle.cert_model.specs.Rows.{certificate_of}
use Rattle.fib_engine.specs.FinalFib.{Rests}
use Rattle.fib_engine.specs.Tables.{both_routes}
use Rattle.fib_engine.proofs.Taking.{both_rows}
use Rattle.fib_engine.proofs.final_fib.FinalFib.certify.Goals as goal

pub returns-clause-takes : goal.returns-clause-takes
returns-clause-takes g c =
    let b = c.self.inside.tables in
    subst (λ rows. OnOk c.certify.result (g.S.RowSink.takes c.args.out.now rows c.certify.new.out)) (both_rows (both_routes b) true b c.self.invariant.v4 c.self.invariant.v6 ∙ ap (λ (r : Rests). certificate_of r.routes) c.self.view_is) c.certify.ensures.takes
