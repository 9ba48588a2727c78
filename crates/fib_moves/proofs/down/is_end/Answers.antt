use Rattle.std.proofs.Common.{sym, ap, arith}
use Rattle.std.specs.Option.{option_copied}
use Rattle.orig_tree.specs.Spots.{spot_answers}
use Rattle.fib_moves.proofs.Passing.{end_last, end_some}
use Rattle.fib_moves.proofs.down.is_end.Goals as goal

pub returns-then-prefix-width-clause-end : goal.returns-then-prefix-width-clause-end
returns-then-prefix-width-clause-end c = λ z.
    let r = c.args.region.now in
    end_last r.bits (spot_answers r) r.entries c.requires.table (omega (arith, c.requires.bits, c.if-prefix-width.true, c.width.ensures))

pub returns-in-None-clause-end : goal.returns-in-None-clause-end
returns-in-None-clause-end c = λ z.
    let r = c.args.region.now in
    end_some r.bits (spot_answers r) r.entries (option_copied c.args.found) c.leaf.result c.is_some.result c.requires.table c.requires.found (ap option_copied c.in-None.is) c.leaf.ensures.one (sym c.is_some.ensures) z
