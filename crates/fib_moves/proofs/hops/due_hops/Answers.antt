use Rattle.std.proofs.Common.{ap}
use Rattle.std.specs.Option.{option_copied}
use Rattle.orig_tree.specs.Spots.{spot_answers}
use Rattle.fib_moves.proofs.Parts.{none_set}
use Rattle.fib_moves.proofs.hops.due_hops.Goals as goal

pub returns-in_ok-set-in-None : goal.returns-in_ok-set-in-None
returns-in_ok-set-in-None c =
    let r = c.args.region.now in
    none_set r.bits (spot_answers r) r.entries (option_copied c.args.found) c.requires c.in_ok-set-in-None.set (ap option_copied c.in-None.is) c.in_ok-set-in-None.ensures
