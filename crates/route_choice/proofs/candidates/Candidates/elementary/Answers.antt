use Rattle.std.proofs.Common.{ap, sym, ◌∙◌, ◌≡◌}
use Rattle.std.specs.Prelude.{map}
use Rattle.std.proofs.lemmas.Result.{IfOk-weaker}
use Rattle.fib_prefix.specs.Views.{elem_as, event_as, peer_as}
use Rattle.route_model.specs.Events.{Down}
use Rattle.route_model.specs.Choice.{elems_of}
use Rattle.adj_rib_in.specs.Paths.{held_in}
use Rattle.adj_rib_in.specs.Flat.{paths_over}
use Rattle.route_choice.specs.Held.{HeldCandidates}
use Rattle.route_choice.proofs.candidates.Candidates.elementary.Goals as goal

pub returns-in-Down : goal.returns-in-Down
returns-in-Down c =
    IfOk-weaker c.cuts_of.result (λ cuts. map elem_as cuts.items ≡ elems_of (held_in (paths_over c.self.inside.flat c.self.inside.paths.entries)) (Down (peer_as c.in-Down.peer))) (λ elems. map elem_as elems.items ≡ elems_of c.args.self.now.candidates (event_as c.args.event.now))
    (λ cuts e. e ∙ (ap (λ (h : HeldCandidates). elems_of h.candidates (Down (peer_as c.in-Down.peer))) c.self.view_is ∙ ap (λ event. elems_of c.args.self.now.candidates (event_as event)) (sym c.in-Down.is))) c.cuts_of.ensures
