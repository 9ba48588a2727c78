use Rattle.std.proofs.Common.{None, sym, ap, subst, ◌∙◌}
use Rattle.std.specs.Prelude.{MatchOption, option_map}
use Rattle.std.proofs.lemmas.Result.{err_from_is_err_and}
use Rattle.fib_prefix.specs.Views.{elem_as}
use Rattle.adj_rib_in.specs.declared.keys.PathKey.{PathKey}
use Rattle.adj_rib_in.specs.Flat.{HasNoKey, IsSlotOf}
use Rattle.route_choice.specs.Held.{HeldCandidates, IsChoice}
use Rattle.route_choice.specs.Kept.{PathsAreKept}
use Rattle.route_choice.specs.Space.{HasSpace, planned_elem, over_of}
use Rattle.route_choice.proofs.Spaces.{space_stays, apart_both}
use Rattle.adj_rib_in.proofs.Views.{unchanged}
use Rattle.adj_rib_in.proofs.Parts.{both_same, over_same, apart_same}
use Rattle.route_choice.proofs.candidates.Candidates.choose.Goals as goal

pub make_space-requires-clause-place : goal.make_space-requires-clause-place
make_space-requires-clause-place c = subst (λ (s : PathKey). MatchOption c.spot_of-spot.result.at (HasNoKey c.self.inside.flat s) (IsSlotOf c.self.inside.flat s)) c.key_of-key.ensures c.spot_of-spot.ensures

pub invariant_of-self : goal.invariant_of-self
invariant_of-self c = (c.make_space.ensures.flat, apart_both _ _ c.self.inside.paths.entries _ c.make_space.ensures.base c.make_space.ensures.offers c.self.invariant.1, c.in_err-make_space.ensures.err (over_of c.self.inside.room) c.self.invariant.2, space_stays c.self.inside.flat c.make_space.new.flat c.self.inside.room c.make_space.ensures.base c.make_space.ensures.grows c.self.invariant.3)

pub returns-in_err-make_space-clause-candidates : goal.returns-in_err-make_space-clause-candidates
returns-in_err-make_space-clause-candidates c = unchanged _ _ (both_same _ _ _ _ c.make_space.ensures.base c.make_space.ensures.offers) ∙ ap (λ (h : HeldCandidates). h.candidates) c.self.view_is

pub returns-in_err-make_space-clause-err : goal.returns-in_err-make_space-clause-err
returns-in_err-make_space-clause-err c =
    let p = err_from_is_err_and c.from_residual.result c.from_residual.ensures.1 in
    rw p.1 (ap (λ held. let h : HeldCandidates = record { candidates = held; room = option_map planned_elem c.self.inside.room } in h) (unchanged _ _ (both_same _ _ _ _ c.make_space.ensures.base c.make_space.ensures.offers)) ∙ c.self.view_is)

pub invariant_of-self-2 : goal.invariant_of-self-2
invariant_of-self-2 c = (
  c.make_space.ensures.flat,
  apart_same _ c.make_space.new.paths.entries _ c.replace_plan.ensures.offers (apart_both _ _ c.self.inside.paths.entries _ c.make_space.ensures.base c.make_space.ensures.offers c.self.invariant.1),
  subst (λ r. PathsAreKept c.replace_plan.new.paths.entries c.replace_plan.new.ranks.keys None (over_of r)) (sym c.replace_plan.ensures.room) (c.replace_plan.ensures.kept (c.in_ok-make_space.ensures.kept (over_of c.self.inside.room) c.self.invariant.2)),
  subst (HasSpace c.make_space.new.flat) (sym c.replace_plan.ensures.room) c.in_ok-make_space.ensures.space,
)

pub returns-clause-candidates : goal.returns-clause-candidates
returns-clause-candidates c = unchanged _ _ (over_same _ _ _ c.replace_plan.ensures.offers) ∙ (unchanged _ _ (both_same _ _ _ _ c.make_space.ensures.base c.make_space.ensures.offers) ∙ ap (λ (h : HeldCandidates). h.candidates) c.self.view_is)

pub returns-clause-choice : goal.returns-clause-choice
returns-clause-choice c = subst (λ (h : HeldCandidates). IsChoice h.candidates (elem_as c.args.elem.now) c.choice_of-choice.result) c.self.view_is c.choice_of-choice.ensures
