use Rattle.std.proofs.Common.{◌≡◌, ◌∙◌, ap, refl, length, rules}
use Rattle.std.specs.Prelude.{map}
use Rattle.adj_rib_in.specs.Flat.{paths_over}
use Rattle.route_choice.specs.Walks.{routes_at, row_prefixes, with_hop_number}
use Rattle.route_choice.proofs.AllRoutes.{by_rows, by_prefixes, no_elements}
use Rattle.route_choice.proofs.AllEntries.{unranked}
use Rattle.route_choice.proofs.entries.entries_of.Goals as goal

pub returns-then-is_empty : goal.returns-then-is_empty
returns-then-is_empty c =
    let l : length c.args.ranks.now.keys ≡ 0 = search rules in
    let none = no_elements c.args.ranks.now.keys l in
    let b = paths_over c.args.flat.now c.args.paths.now.entries in
    c.in_ok-entries.ensures c.args.paths.now.entries c.requires.apart (unranked c.args.paths.now.entries c.args.ranks.now.keys c.requires.indexed none)
    ∙ ap (map (with_hop_number c.args.hops.now.list)) (by_rows c.args.flat.now c.args.paths.now.entries c.args.ranks.now.keys (routes_at b (row_prefixes c.args.flat.now.rows.items)) c.requires.flat c.requires.indexed none refl)

pub returns : goal.returns
returns c =
    let b = paths_over c.args.flat.now c.args.paths.now.entries in
    c.in_ok-entries-2.ensures ∙ ap (map (with_hop_number c.args.hops.now.list)) (by_prefixes c.args.flat.now c.args.paths.now.entries c.args.ranks.now.keys c.in_ok-prefixes.prefixes.items c.deref.result.now (routes_at b c.deref.result.now) c.requires.indexed c.in_ok-prefixes.ensures.rows c.in_ok-prefixes.ensures.ranks c.in_ok-prefixes.ensures.sorted c.deref.ensures.value refl)
