use Rattle.std.proofs.Common.{ap, ◌∙◌}
use Rattle.std.specs.Option.{option_copied}
use Rattle.orig_tree.specs.Spots.{spot_answers}
use Rattle.fib_moves.proofs.Parts.{none_least, some_least}
use Rattle.fib_moves.proofs.hops.least_hop.Goals as goal

pub returns-in-Some : goal.returns-in-Some
returns-in-Some c =
    let r = c.args.region.now in
    c.least.ensures ∙ some_least r.bits (spot_answers r) r.entries (option_copied c.args.found) c.requires c.in-Some.hops.now (ap option_copied c.in-Some.is)

pub returns-in-None : goal.returns-in-None
returns-in-None c =
    let r = c.args.region.now in
    c.least-in-None.ensures ∙ none_least r.bits (spot_answers r) r.entries (option_copied c.args.found) c.requires (ap option_copied c.in-None.is)
