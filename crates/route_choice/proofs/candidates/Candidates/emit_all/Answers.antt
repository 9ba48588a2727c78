use Rattle.std.proofs.Common.{subst}
use Rattle.std.specs.List.{AllByRecursion}
use Rattle.fib_prefix.specs.Views.{IsOfOctets}
use Rattle.route_model.specs.Choice.{AreCandidates}
use Rattle.adj_rib_in.specs.Flat.{paths_over}
use Rattle.adj_rib_in.proofs.Views.{are_candidates}
use Rattle.route_choice.specs.Held.{HeldCandidates}
use Rattle.route_choice.proofs.Handed.{took_octets}
use Rattle.route_choice.proofs.candidates.Candidates.emit_all.Goals as goal

pub returns-clause-octets : goal.returns-clause-octets
returns-clause-octets g c = subst (λ (h : HeldCandidates). AllByRecursion IsOfOctets h.candidates) c.self.view_is (took_octets g.S.CandSink.takes c.args.out.now c.emit_candidates.new.out _ c.in_ok-emit_candidates.ensures.takes)

pub returns-clause-held : goal.returns-clause-held
returns-clause-held g c = subst (λ (h : HeldCandidates). AreCandidates h.candidates) c.self.view_is (are_candidates (paths_over c.self.inside.flat c.self.inside.paths.entries))

pub returns-in_err-emit_candidates-clause-held : goal.returns-in_err-emit_candidates-clause-held
returns-in_err-emit_candidates-clause-held g c = subst (λ (h : HeldCandidates). AreCandidates h.candidates) c.self.view_is (are_candidates (paths_over c.self.inside.flat c.self.inside.paths.entries))
