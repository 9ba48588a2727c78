use Rattle.std.proofs.Common.{Some}
use Rattle.adj_rib_in.specs.declared.keys.PathAttrs.{PathAttrs}
use Rattle.adj_rib_in.specs.declared.keys.PathKey.{PathKey}
use Rattle.adj_rib_in.proofs.Parts.{flat_offers, behind_apart}
use Rattle.route_choice.proofs.both.put_behind.Goals as goal

pub returns-clause-apart : goal.returns-clause-apart
returns-clause-apart c =
    let q : PathKey = record { via = c.args.via.now; prefix = c.args.prefix.now } in
    let o : PathAttrs = record { path = c.args.path; hop = c.args.hop.now } in
    behind_apart c.in_ok-put.put _ _ c.args.paths.now.entries q (Some o) c.in_ok-put.ensures.yes c.in_ok-put.ensures.no c.requires.apart (c.has_attrs.ensures c.if-has_attrs.false)

pub returns-clause-yes : goal.returns-clause-yes
returns-clause-yes c = λ e.
    let q : PathKey = record { via = c.args.via.now; prefix = c.args.prefix.now } in
    let o : PathAttrs = record { path = c.args.path; hop = c.args.hop.now } in
    flat_offers _ _ c.args.paths.now.entries q (Some o) (c.in_ok-put.ensures.yes e)
