use Rattle.std.proofs.Common.{ap, ◌∙◌}
use Rattle.adj_rib_in.specs.declared.keys.PathKey.{PathKey}
use Rattle.adj_rib_in.specs.Paths.{attrs_at, rank_at}
use Rattle.route_choice.specs.Paths.{key_in}
use Rattle.route_choice.proofs.Rooms.{set_in, has_its_key}
use Rattle.route_choice.proofs.Kept.{carried_kept, paths_in, its_pruned, none_pruned}
use Rattle.route_choice.proofs.over.carry_out.Goals as goal

pub set_attrs-requires : goal.set_attrs-requires
set_attrs-requires c = has_its_key _ _ c.args.elem.now c.key_of-key.result c.attrs_of.result c.key_of-key.ensures c.attrs_of.ensures c.requires.room

pub returns-in-Some-clause-offers : goal.returns-in-Some-clause-offers
returns-in-Some-clause-offers c = set_in _ _ c.args.elem.now c.key_of-key.result c.attrs_of.result c.key_of-key.ensures c.attrs_of.ensures c.set_attrs.ensures.offers

pub returns-in_default-clause-offers : goal.returns-in_default-clause-offers
returns-in_default-clause-offers c = set_in _ _ c.args.elem.now c.key_of-key.result c.attrs_of.result c.key_of-key.ensures c.attrs_of.ensures c.set_attrs.ensures.offers

pub returns-in-Some-clause-kept : goal.returns-in-Some-clause-kept
returns-in-Some-clause-kept c =
    let e = c.args.elem.now in
    carried_kept _ _ _ _ e c.attrs_at-old.result (c.attrs_at-old.ensures ∙ ap (attrs_at _) c.key_of-key.ensures) (set_in _ _ e c.key_of-key.result c.attrs_of.result c.key_of-key.ensures c.attrs_of.ensures c.set_attrs.ensures.offers)
    (paths_in _ _ e c.key_of-key.result c.attrs_of.result c.key_of-key.ensures c.attrs_of.ensures c.set_attrs.ensures.paths) c.prune_rank.ensures.indexed
    (its_pruned _ _ _ (key_in e) c.attrs_at-old.result c.in-Some.old c.path.result c.rank.result c.in-Some.is c.path.ensures (c.rank.ensures ∙ ap (λ (s : PathKey). rank_at s c.path.result) c.key_of-key.ensures) c.prune_rank.ensures.serve) c.requires

pub returns-in_default-clause-kept : goal.returns-in_default-clause-kept
returns-in_default-clause-kept c =
    let e = c.args.elem.now in
    carried_kept _ _ _ _ e c.attrs_at-old.result (c.attrs_at-old.ensures ∙ ap (attrs_at _) c.key_of-key.ensures) (set_in _ _ e c.key_of-key.result c.attrs_of.result c.key_of-key.ensures c.attrs_of.ensures c.set_attrs.ensures.offers)
    (paths_in _ _ e c.key_of-key.result c.attrs_of.result c.key_of-key.ensures c.attrs_of.ensures c.set_attrs.ensures.paths) (λ i. i) (none_pruned _ _ (key_in e) c.attrs_at-old.result c.in_default.is) c.requires
