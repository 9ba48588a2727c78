use Rattle.std.proofs.Common.{Option, ap, sym, subst, ◌∙◌, None}
use Rattle.fib_prefix.specs.Views.{elem_as}
use Rattle.route_model.specs.Choice.{after_elem}
use Rattle.std.specs.Prelude.{option_map}
use Rattle.std.proofs.lemmas.Result.{err_from_is_err_and}
use Rattle.route_choice.specs.Held.{HeldCandidates}
use Rattle.route_choice.specs.Kept.{PathsAreKept}
use Rattle.route_choice.specs.Space.{HasSpace, planned_elem, over_of}
use Rattle.route_choice.specs.declared.plan.Plan.{Plan}
use Rattle.route_choice.proofs.Views.{changed}
use Rattle.route_choice.proofs.Spaces.{space_stays}
use Rattle.adj_rib_in.proofs.Views.{unchanged}
use Rattle.adj_rib_in.proofs.Parts.{both_same, over_same, apart_same}
use Rattle.route_choice.proofs.candidates.Candidates.load.Goals as goal

pub invariant_of-self : goal.invariant_of-self
invariant_of-self c = (c.load_elem.ensures.flat, c.load_elem.ensures.apart, c.in_err-load_elem.ensures.err (over_of c.self.inside.room) c.self.invariant.2, space_stays c.self.inside.flat c.load_elem.new.flat c.self.inside.room c.in_err-load_elem.ensures.err_base c.in_err-load_elem.ensures.err_grows c.self.invariant.3)

pub returns-in_err-load_elem-clause-err : goal.returns-in_err-load_elem-clause-err
returns-in_err-load_elem-clause-err c =
    let p = err_from_is_err_and c.from_residual.result c.from_residual.ensures.1 in
    rw p.1 (ap (λ held. let h : HeldCandidates = record { candidates = held; room = option_map planned_elem c.self.inside.room } in h) (unchanged _ _ (both_same _ _ _ _ c.in_err-load_elem.ensures.err_base c.in_err-load_elem.ensures.err_offers)) ∙ c.self.view_is)

pub returns-clause-candidates : goal.returns-clause-candidates
returns-clause-candidates c = unchanged _ _ (over_same _ _ _ c.end_plan.ensures.offers) ∙ (changed _ _ c.args.elem.now c.in_ok-load_elem.ensures.ok ∙ ap (λ (h : HeldCandidates). after_elem h.candidates (elem_as c.args.elem.now)) c.self.view_is)

pub invariant_of-self-2 : goal.invariant_of-self-2
invariant_of-self-2 c = (
  c.load_elem.ensures.flat,
  apart_same _ c.load_elem.new.paths.entries _ c.end_plan.ensures.offers c.load_elem.ensures.apart,
  subst (λ (r : Option Plan). PathsAreKept c.end_plan.new.paths.entries c.end_plan.new.ranks.keys None (over_of r)) (sym c.end_plan.ensures.room) (c.end_plan.ensures.kept (c.in_ok-load_elem.ensures.kept (over_of c.self.inside.room) c.self.invariant.2)),
  subst (HasSpace c.load_elem.new.flat) (sym c.end_plan.ensures.room) tt,
)
