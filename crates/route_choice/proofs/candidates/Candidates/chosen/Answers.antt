use Rattle.std.proofs.Common.{ap, sym, ◌∙◌, Some}
use Rattle.std.specs.Prelude.{option_map}
use Rattle.fib_addr.specs.Views.{addr_as, prefix_as}
use Rattle.route_model.specs.Choice.{chosen_for}
use Rattle.adj_rib_in.specs.declared.keys.Candidate.{Candidate}
use Rattle.route_choice.specs.Held.{HeldCandidates}
use Rattle.adj_rib_in.specs.Flat.{paths_over}
use Rattle.route_choice.proofs.Choose.{chosen_best}
use Rattle.route_choice.proofs.candidates.Candidates.chosen.Goals as goal

pub returns-in_err-best : goal.returns-in_err-best
returns-in_err-best c = ap (option_map addr_as) c.from_residual.ensures ∙ (sym (ap (option_map (λ (x : Candidate). addr_as x.attrs.hop)) c.in_err-best.was) ∙ (chosen_best (paths_over c.self.inside.flat c.self.inside.paths.entries) c.args.prefix.now c.best_of.result c.best_of.ensures ∙ ap (λ (h : HeldCandidates). chosen_for h.candidates (prefix_as c.args.prefix.now)) c.self.view_is))

pub returns : goal.returns
returns c = ap (λ h. Some (addr_as h)) c.hop.ensures ∙ (sym (ap (option_map (λ (x : Candidate). addr_as x.attrs.hop)) c.in_ok-best.was) ∙ (chosen_best (paths_over c.self.inside.flat c.self.inside.paths.entries) c.args.prefix.now c.best_of.result c.best_of.ensures ∙ ap (λ (h : HeldCandidates). chosen_for h.candidates (prefix_as c.args.prefix.now)) c.self.view_is))
