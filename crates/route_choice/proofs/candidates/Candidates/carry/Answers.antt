use Rattle.std.proofs.Common.{ap, ◌∙◌}
use Rattle.fib_prefix.specs.Views.{elem_as}
use Rattle.route_model.specs.Choice.{after_elem}
use Rattle.route_choice.specs.Held.{HeldCandidates}
use Rattle.route_choice.proofs.Views.{changed}
use Rattle.route_choice.proofs.Spaces.{if_some, planned_is}
use Rattle.route_choice.proofs.candidates.Candidates.carry.Goals as goal

pub returns-clause-candidates : goal.returns-clause-candidates
returns-clause-candidates c = if_some _ c.args.self.now.room (λ elem is.
    let plan = c.in-Some.plan in
    changed _ _ plan.elem c.carry_one.ensures.offers
    ∙ (ap (λ (h : HeldCandidates). after_elem h.candidates (elem_as plan.elem)) c.self.view_is ∙ ap (after_elem c.args.self.now.candidates) (planned_is c.self.inside.room plan elem c.in-Some.is (ap (λ (h : HeldCandidates). h.room) c.self.view_is ∙ is))))
