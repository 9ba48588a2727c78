use Rattle.std.proofs.Common.{◌≡◌, ◌++◌, map, ap, ◌∙◌}
use Rattle.std.proofs.lemmas.Result.{IfOk-weaker}
use Rattle.table_model.specs.declared.family.Family.TheVariants.{V4, V6}
use Rattle.table_model.specs.Both.{aggregate_in, aggregate_in_both}
use Rattle.cert_model.specs.Rows.{certificate_of, family_rows}
use Rattle.kept_model.specs.Feed.{entries_of}
use Rattle.fib_addr.specs.Views.{entry_as}
use Rattle.cert_model.specs.Views.{row_as}
use Rattle.fib_engine.specs.Held.{EngineState, routes_told}
use Rattle.fib_engine.proofs.Taking.{both_least, both_rows}
use Rattle.fib_engine.proofs.engine.Engine.least.Goals as goal

pub returns-clause-table : goal.returns-clause-table
returns-clause-table c =
    let t = c.self.inside in
    let b = t.parts.tables in
    IfOk-weaker c.least.result (λ v. map entry_as v.table.items ≡ aggregate_in V4 b.v4.routes b.v4.entries ++ aggregate_in V6 b.v6.routes b.v6.entries) (λ v. map entry_as v.table.items ≡ aggregate_in_both (routes_told c.args.self.now) c.args.self.now.table)
    (λ v e. e ∙ (both_least (entries_of t.parts.hops.list t.parts.candidates.candidates) t.parts.is_loaded b c.self.invariant.0.v4 c.self.invariant.0.v6 ∙ ap (λ (h : EngineState). aggregate_in_both (routes_told h) h.table) c.self.view_is)) c.least.ensures.table

pub returns-clause-proof : goal.returns-clause-proof
returns-clause-proof c =
    let t = c.self.inside in
    let b = t.parts.tables in
    IfOk-weaker c.least.result (λ v. map row_as v.proof.items ≡ family_rows V4 b.v4.routes ++ family_rows V6 b.v6.routes) (λ v. map row_as v.proof.items ≡ certificate_of (routes_told c.args.self.now))
    (λ v e. e ∙ (both_rows (entries_of t.parts.hops.list t.parts.candidates.candidates) t.parts.is_loaded b c.self.invariant.0.v4 c.self.invariant.0.v6 ∙ ap (λ (h : EngineState). certificate_of (routes_told h)) c.self.view_is)) c.least.ensures.proof
