use Rattle.std.proofs.Common.{◌++◌, ap, subst, ◌∙◌}
use Rattle.table_model.specs.declared.family.Family.{Family}
use Rattle.table_model.specs.declared.family.Family.TheVariants.{V4, V6}
use Rattle.cert_model.specs.Rows.{family_rows}
use Rattle.fib_engine.specs.Tables.{Both}
use Rattle.fib_engine.proofs.tables.Tables.certify.Goals as goal

pub returns-clause-takes : goal.returns-clause-takes
returns-clause-takes g c =
    let t = c.self.inside in
    let f4 = ap (λ (b : Both). b.v4.family) c.self.view_is ∙ c.requires.both.0 in
    let f6 = ap (λ (b : Both). b.v6.family) c.self.view_is ∙ c.requires.both.1 in
    let low = subst (λ (f : Family). g.S.RowSink.takes c.args.out.now (family_rows f t.v4.routes) c.certify.new.out) f4 c.in_ok-certify.ensures.takes in
    let high = subst (λ (f : Family). g.S.RowSink.takes c.certify.new.out (family_rows f t.v6.routes) c.certify-2.new.out) f6 c.in_ok-certify-2.ensures.takes in
    let all = g.met.S.RowSink.more _ _ _ _ _ low high in
    subst (λ (b : Both). g.S.RowSink.takes c.args.out.now (family_rows V4 b.v4.routes ++ family_rows V6 b.v6.routes) c.certify-2.new.out) c.self.view_is all
