use Rattle.std.proofs.Common.{Option, ap, sym, subst, ◌∙◌, None}
use Rattle.fib_prefix.specs.declared.event.Elem.TheVariants.{Put}
use Rattle.route_model.specs.Choice.{after_elem}
use Rattle.std.specs.Prelude.{option_map}
use Rattle.std.proofs.lemmas.Result.{err_from_is_err_and}
use Rattle.route_choice.specs.Held.{HeldCandidates, put_as}
use Rattle.route_choice.specs.Kept.{PathsAreKept}
use Rattle.route_choice.specs.Space.{HasSpace, planned_elem, over_of}
use Rattle.route_choice.specs.declared.plan.Plan.{Plan}
use Rattle.route_choice.proofs.Views.{changed}
use Rattle.route_choice.proofs.Spaces.{space_stays}
use Rattle.adj_rib_in.proofs.Views.{unchanged}
use Rattle.adj_rib_in.proofs.Parts.{both_same, over_same, apart_same}
use Rattle.route_choice.proofs.candidates.Candidates.load_put.Goals as goal

pub invariant_of-self : goal.invariant_of-self
invariant_of-self c = (c.put_route.ensures.flat, c.put_route.ensures.apart, c.in_err-put_route.ensures.err (over_of c.self.inside.room) c.self.invariant.2, space_stays c.self.inside.flat c.put_route.new.flat c.self.inside.room c.in_err-put_route.ensures.err_base c.in_err-put_route.ensures.err_grows c.self.invariant.3)

pub returns-in_err-put_route-clause-err : goal.returns-in_err-put_route-clause-err
returns-in_err-put_route-clause-err c =
    let p = err_from_is_err_and c.from_residual.result c.from_residual.ensures.1 in
    rw p.1 (ap (λ held. let h : HeldCandidates = record { candidates = held; room = option_map planned_elem c.self.inside.room } in h) (unchanged _ _ (both_same _ _ _ _ c.in_err-put_route.ensures.err_base c.in_err-put_route.ensures.err_offers)) ∙ c.self.view_is)

pub returns-clause-candidates : goal.returns-clause-candidates
returns-clause-candidates c = unchanged _ _ (over_same _ _ _ c.end_plan.ensures.offers) ∙ (changed _ _ (Put c.args.via.now c.args.prefix.now c.args.path c.args.hop.now) c.in_ok-put_route.ensures.ok ∙ ap (λ (h : HeldCandidates). after_elem h.candidates (put_as c.args.via.now c.args.prefix.now c.args.path c.args.hop.now)) c.self.view_is)

pub invariant_of-self-2 : goal.invariant_of-self-2
invariant_of-self-2 c = (
  c.put_route.ensures.flat,
  apart_same _ c.put_route.new.paths.entries _ c.end_plan.ensures.offers c.put_route.ensures.apart,
  subst (λ (r : Option Plan). PathsAreKept c.end_plan.new.paths.entries c.end_plan.new.ranks.keys None (over_of r)) (sym c.end_plan.ensures.room) (c.end_plan.ensures.kept (c.in_ok-put_route.ensures.kept (over_of c.self.inside.room) c.self.invariant.2)),
  subst (HasSpace c.put_route.new.flat) (sym c.end_plan.ensures.room) tt,
)
