use Rattle.std.proofs.Common.{◌≡◌, ℕ, length, ap, refl, ◌∙◌, rules}
use Rattle.std.specs.Prelude.{filter, map}
use Rattle.table_model.specs.Address.{Prefix, same_family}
use Rattle.kept_model.specs.Feed.{entries_of}
use Rattle.adj_rib_in.specs.Flat.{paths_over}
use Rattle.route_choice.specs.Held.{HeldCandidates}
use Rattle.route_choice.specs.Walks.{routes_at, row_prefixes, with_hop_number}
use Rattle.route_choice.proofs.AllRoutes.{by_rows, no_elements}
use Rattle.route_choice.proofs.candidates.Candidates.family_routes.Goals as goal

pub returns : goal.returns
returns c =
    let t = c.self.inside in
    let hops = c.args.hops.now.list in
    let l : length t.ranks.keys ≡ 0 = search rules in
    let own = λ (e : Prefix × ℕ). same_family c.args.family e.0.family in
    c.new.ensures
    ∙ (ap (λ rs. filter own (map (with_hop_number hops) rs)) (by_rows t.flat t.paths.entries t.ranks.keys (routes_at (paths_over t.flat t.paths.entries) (row_prefixes t.flat.rows.items)) c.self.invariant.0 c.self.invariant.2.indexed (no_elements t.ranks.keys l) refl)
    ∙ ap (λ (h : HeldCandidates). filter own (entries_of hops h.candidates)) c.self.view_is)
