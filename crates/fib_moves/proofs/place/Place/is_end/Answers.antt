use Rattle.std.proofs.Common.{arith}
use Rattle.orig_tree.specs.Spots.{spot_answers}
use Rattle.fib_moves.proofs.Parts.{knows_last}
use Rattle.fib_moves.proofs.place.Place.is_end.Goals as goal

pub returns-then-prefix-width-clause-end : goal.returns-then-prefix-width-clause-end
returns-then-prefix-width-clause-end c = λ z.
    let r = c.args.self.now.region in
    knows_last r.bits (spot_answers r) r.entries c.requires.place.table (omega (arith, c.requires.bits, c.if-prefix-width.true, c.width.ensures))
