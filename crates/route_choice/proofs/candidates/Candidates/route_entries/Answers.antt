use Rattle.std.proofs.Common.{subst}
use Rattle.route_model.specs.Choice.{AreCandidates}
use Rattle.adj_rib_in.specs.Flat.{paths_over}
use Rattle.adj_rib_in.proofs.Views.{are_candidates}
use Rattle.route_choice.specs.Held.{HeldCandidates}
use Rattle.route_choice.proofs.candidates.Candidates.route_entries.Goals as goal

pub returns-clause-held : goal.returns-clause-held
returns-clause-held c = subst (λ (h : HeldCandidates). AreCandidates h.candidates) c.self.view_is (are_candidates (paths_over c.self.inside.flat c.self.inside.paths.entries))
