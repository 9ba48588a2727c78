use Rattle.std.proofs.Common.{ap, ◌∙◌}
use Rattle.std.specs.Option.{option_copied}
use Rattle.orig_tree.specs.Spots.{spot_answers}
use Rattle.fib_moves.proofs.Parts.{none_holds, some_holds}
use Rattle.fib_moves.proofs.hops.allows.Goals as goal

pub returns-in-Some : goal.returns-in-Some
returns-in-Some c =
    let r = c.args.region.now in
    c.contains.ensures ∙ some_holds r.bits (spot_answers r) r.entries (option_copied c.args.found) c.requires c.in-Some.hops.now c.args.hop (ap option_copied c.in-Some.is)

pub returns-in-None : goal.returns-in-None
returns-in-None c =
    let r = c.args.region.now in
    c.is_best.ensures ∙ none_holds r.bits (spot_answers r) r.entries (option_copied c.args.found) c.requires c.args.hop (ap option_copied c.in-None.is)
