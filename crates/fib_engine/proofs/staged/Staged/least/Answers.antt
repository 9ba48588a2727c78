use Rattle.std.proofs.Common.{◌≡◌, ◌++◌, map, true, Bool, ap, subst, ◌∙◌}
use Rattle.std.proofs.lemmas.Result.{IfOk-weaker}
use Rattle.table_model.specs.declared.family.Family.TheVariants.{V4, V6}
use Rattle.table_model.specs.Both.{aggregate_in, aggregate_in_both}
use Rattle.cert_model.specs.Rows.{certificate_of, family_rows}
use Rattle.cert_model.specs.Views.{row_as}
use Rattle.kept_model.specs.Feed.{entries_of}
use Rattle.fib_addr.specs.Views.{entry_as}
use Rattle.fib_engine.specs.Held.{IsSound, engine_routes}
use Rattle.fib_engine.specs.Staged.{Staging}
use Rattle.fib_engine.proofs.Taking.{both_least, both_rows}
use Rattle.fib_engine.proofs.Staging.{at_rest}
use Rattle.fib_engine.proofs.staged.Staged.least.Goals as goal

pub least-requires : goal.least-requires
least-requires c =
    let t = c.self.inside in
    let r = at_rest t.waiting t.parts (ap (λ (x : Staging). x.planned) c.self.view_is ∙ c.requires) c.self.invariant in
    (r.1.0.v4.family, r.1.0.v6.family)

pub returns-clause-table : goal.returns-clause-table
returns-clause-table c =
    let t = c.self.inside in
    let p = t.parts in
    let b = p.tables in
    let r = at_rest t.waiting p (ap (λ (x : Staging). x.planned) c.self.view_is ∙ c.requires) c.self.invariant in
    let s : IsSound p.candidates.candidates p.hops.list true b = subst (λ (l : Bool). IsSound p.candidates.candidates p.hops.list l b) r.0 r.1.0 in
    IfOk-weaker c.least.result (λ v. map entry_as v.table.items ≡ aggregate_in V4 b.v4.routes b.v4.entries ++ aggregate_in V6 b.v6.routes b.v6.entries) (λ v. map entry_as v.table.items ≡ aggregate_in_both (engine_routes c.args.self.now.held) c.args.self.now.held.table)
    (λ v e. e ∙ (both_least (entries_of p.hops.list p.candidates.candidates) true b s.v4 s.v6 ∙ ap (λ (x : Staging). aggregate_in_both (engine_routes x.held) x.held.table) c.self.view_is)) c.least.ensures.table

pub returns-clause-proof : goal.returns-clause-proof
returns-clause-proof c =
    let t = c.self.inside in
    let p = t.parts in
    let b = p.tables in
    let r = at_rest t.waiting p (ap (λ (x : Staging). x.planned) c.self.view_is ∙ c.requires) c.self.invariant in
    let s : IsSound p.candidates.candidates p.hops.list true b = subst (λ (l : Bool). IsSound p.candidates.candidates p.hops.list l b) r.0 r.1.0 in
    IfOk-weaker c.least.result (λ v. map row_as v.proof.items ≡ family_rows V4 b.v4.routes ++ family_rows V6 b.v6.routes) (λ v. map row_as v.proof.items ≡ certificate_of (engine_routes c.args.self.now.held))
    (λ v e. e ∙ (both_rows (entries_of p.hops.list p.candidates.candidates) true b s.v4 s.v6 ∙ ap (λ (x : Staging). certificate_of (engine_routes x.held)) c.self.view_is)) c.least.ensures.proof
