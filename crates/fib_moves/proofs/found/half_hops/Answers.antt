use Rattle.std.proofs.Common.{sym, ◌∙◌}
use Rattle.orig_tree.specs.Spots.{spot_answers}
use Rattle.orig_tree.specs.Walk.{behind}
use Rattle.fib_moves.proofs.Settled.{settled_gives}
use Rattle.fib_moves.proofs.found.half_hops.Goals as goal

pub settled_hops-requires-clause-right : goal.settled_hops-requires-clause-right
settled_hops-requires-clause-right c =
    let p = c.args.place.now in
    let r = p.region in
    settled_gives r.bits (spot_answers r) (behind p.node).routes r.entries c.args.inherited c.is_settled.result c.requires.right c.is_settled.ensures c.if-is_settled.true

pub may_inherit-requires : goal.may_inherit-requires
may_inherit-requires c =
    let p = c.args.place.now in
    let r = p.region in
    c.hops_of.ensures r.bits (spot_answers r) (behind p.node).routes r.entries (c.requires.found (sym c.is_settled.ensures ∙ c.if-is_settled.false))
