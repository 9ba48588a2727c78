use Rattle.std.proofs.Common.{Some, ap}
use Rattle.adj_rib_in.specs.declared.keys.PathAttrs.{PathAttrs}
use Rattle.adj_rib_in.specs.declared.keys.PathKey.{PathKey}
use Rattle.adj_rib_in.specs.Flat.{paths_over, flat_paths}
use Rattle.route_choice.proofs.Spaces.{kept_beside, offers_later}
use Rattle.route_choice.proofs.both.put_route.Goals as goal

pub returns-then-branch-clause-kept : goal.returns-then-branch-clause-kept
returns-then-branch-clause-kept c = kept_beside c.args.paths.now.entries c.args.ranks.now.keys

pub returns-clause-ok : goal.returns-clause-ok
returns-clause-ok c =
    let q : PathKey = record { via = c.args.via.now; prefix = c.args.prefix.now } in
    let o : PathAttrs = record { path = c.args.path; hop = c.args.hop.now } in
    offers_later (flat_paths c.args.flat.now) (flat_paths c.put_behind.new.flat) c.args.paths.now.entries (paths_over c.put_one.new.flat c.put_one.new.paths.entries) c.new.result q (Some c.new-2.result) (Some o) (c.in_ok-put_behind.ensures.no c.if-branch.false) c.new.ensures (ap Some c.new-2.ensures) c.in_ok-put_one.ensures.ok
