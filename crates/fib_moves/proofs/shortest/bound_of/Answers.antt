use Rattle.orig_tree.specs.Spots.{spot_answers}
use Rattle.fib_moves.proofs.shortest.bound_of.Goals as goal

pub may_inherit-requires : goal.may_inherit-requires
may_inherit-requires c =
    let r = c.args.region.now in
    c.hops_of.ensures r.bits (spot_answers r) r.entries c.requires
