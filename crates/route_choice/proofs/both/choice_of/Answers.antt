use Rattle.std.proofs.Common.{ap, ◌∙◌, refl}
use Rattle.adj_rib_in.specs.Flat.{paths_over}
use Rattle.route_choice.specs.Walks.{better_of}
use Rattle.route_choice.proofs.Choose.{choice_from}
use Rattle.route_choice.proofs.both.choice_of.Goals as goal

pub returns : goal.returns
returns c =
    let key = c.args.key.now in
    let others = c.best_beside-others.result in
    choice_from (paths_over c.args.flat.now c.args.paths.now.entries) c.args.elem.now key key.via key.prefix others c.offered_by-own.result c.attrs_of.result (record { prefix = c.prefix.result; before = c.better_hop.result; after = c.better_hop-2.result }) c.requires.key refl refl c.best_beside-others.ensures c.prefix.ensures c.offered_by-own.ensures
    (c.better_hop.ensures ∙ ap (λ q. better_of q c.offered_by-own.result others) c.via-via.ensures) c.attrs_of.ensures (c.better_hop-2.ensures ∙ ap (λ q. better_of q c.attrs_of.result others) c.via-via.ensures)
