use Rattle.std.proofs.Common.{ap, ◌∙◌, None, ◌++◌}
use Rattle.route_choice.specs.Held.{HeldCandidates}
use Rattle.adj_rib_in.specs.Paths.{Paths, held_in}
use Rattle.route_choice.proofs.candidates.Candidates.new.Goals as goal

pub returns : goal.returns
unfolding held_in
returns c =
    ap (λ (paths : Paths). let h : HeldCandidates = record { candidates = held_in (paths ++ c.new-2.result.entries); room = None } in h) c.new.ensures.paths
    ∙ ap (λ (paths : Paths). let h : HeldCandidates = record { candidates = held_in paths; room = None } in h) c.new-2.ensures.empty
