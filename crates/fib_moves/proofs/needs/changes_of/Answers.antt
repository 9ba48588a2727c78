use Rattle.orig_tree.specs.Spots.{spot_answers}
use Rattle.fib_moves.proofs.needs.changes_of.Goals as goal

pub allows-requires : goal.allows-requires
allows-requires c =
    let r = c.args.region.now in
    c.hops_of.ensures r.bits (spot_answers r) r.entries c.requires
