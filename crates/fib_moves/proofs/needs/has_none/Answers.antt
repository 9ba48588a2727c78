use Rattle.std.proofs.Common.{true, refl, sym, ◌∙◌}
use Rattle.orig_tree.specs.Spots.{spot_answers}
use Rattle.fib_moves.proofs.Parts.{no_entries}
use Rattle.fib_moves.proofs.needs.has_none.Goals as goal

pub returns-clause-none : goal.returns-clause-none
returns-clause-none c = λ z.
    let r = c.args.region.now in
    no_entries r.bits (spot_answers r) r.entries c.args.needs.now c.entry.result true c.is_none.result c.requires (sym c.is_some.ensures ∙ c.if-is_some.false) refl c.entry.ensures c.is_none.ensures z
