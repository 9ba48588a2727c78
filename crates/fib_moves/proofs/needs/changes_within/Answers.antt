use Rattle.std.proofs.Common.{◌∙◌}
use Rattle.orig_tree.specs.Spots.{spot_answers}
use Rattle.fib_moves.proofs.Parts.{none_k}
use Rattle.fib_moves.proofs.needs.changes_within.Goals as goal

pub returns-in-None : goal.returns-in-None
returns-in-None c =
    let r = c.args.region.now in
    c.k.ensures ∙ none_k r.bits (spot_answers r) r.entries c.args.needs.now c.requires c.in-None.is
