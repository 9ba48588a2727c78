use Rattle.std.proofs.Common.{Some}
use Rattle.route_choice.proofs.Rooms.{set_at}
use Rattle.route_choice.proofs.Kept.{put_kept, its_pruned, none_pruned, flat_is, key_added, taken_back, kept_ranks}
use Rattle.route_choice.proofs.over.put_attrs.Goals as goal

pub returns-in-Err-clause-err : goal.returns-in-Err-clause-err
returns-in-Err-clause-err c = λ plan. kept_ranks _ _ _ _ _ plan c.in-Err.ensures.err (taken_back _ _ _ c.rank-rank.result c.in_ok-is_new.is_new c.in_ok-is_new.ensures.added c.in_ok-is_new.ensures.updates.0 c.take_back.ensures)

pub returns-in-Some-clause-ok : goal.returns-in-Some-clause-ok
returns-in-Some-clause-ok c = set_at _ _ c.args.key.now (Some c.args.attrs) c.in-Ok.ensures.updates.0

pub returns-in_default-clause-ok : goal.returns-in_default-clause-ok
returns-in_default-clause-ok c = set_at _ _ c.args.key.now (Some c.args.attrs) c.in-Ok.ensures.updates.0

pub returns-in-Some-clause-kept : goal.returns-in-Some-clause-kept
returns-in-Some-clause-kept c =
    put_kept _ _ _ _ _ c.args.key.now c.args.attrs c.path.result c.rank-rank.result c.flatten-old.result (flat_is _ c.args.key.now c.in-Ok.old c.flatten-old.result c.in-Ok.ensures.old c.flatten-old.ensures) c.path.ensures c.rank-rank.ensures c.in_ok-is_new.ensures.updates.0
    (set_at _ _ c.args.key.now (Some c.args.attrs) c.in-Ok.ensures.updates.0) (key_added _ _ c.args.key.now (Some c.args.attrs) c.in-Ok.ensures.updates.0) c.prune_rank.ensures.indexed
    (its_pruned _ _ _ c.args.key.now c.flatten-old.result c.in-Some.old c.path-in-Some.result c.rank.result c.in-Some.is c.path-in-Some.ensures c.rank.ensures c.prune_rank.ensures.serve)

pub returns-in_default-clause-kept : goal.returns-in_default-clause-kept
returns-in_default-clause-kept c =
    put_kept _ _ _ _ _ c.args.key.now c.args.attrs c.path.result c.rank-rank.result c.flatten-old.result (flat_is _ c.args.key.now c.in-Ok.old c.flatten-old.result c.in-Ok.ensures.old c.flatten-old.ensures) c.path.ensures c.rank-rank.ensures c.in_ok-is_new.ensures.updates.0
    (set_at _ _ c.args.key.now (Some c.args.attrs) c.in-Ok.ensures.updates.0) (key_added _ _ c.args.key.now (Some c.args.attrs) c.in-Ok.ensures.updates.0) (λ i. i) (none_pruned _ _ c.args.key.now c.flatten-old.result c.in_default.is)
