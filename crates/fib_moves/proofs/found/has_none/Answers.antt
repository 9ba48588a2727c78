use Rattle.std.proofs.Common.{true, refl, sym, ◌∙◌}
use Rattle.orig_tree.specs.Spots.{spot_answers}
use Rattle.orig_tree.specs.Walk.{behind}
use Rattle.fib_moves.proofs.Finding.{hops_none}
use Rattle.fib_moves.proofs.found.has_none.Goals as goal

pub returns : goal.returns
returns c = λ z.
    let p = c.args.place.now in
    let r = p.region in
    hops_none r.bits (spot_answers r) (behind p.node).routes r.entries c.args.found.now (c.requires (sym c.is_settled.ensures ∙ c.if-is_settled.false)) c.entry.result true c.is_none.result (sym c.is_some.ensures ∙ c.if-is_some.false) refl c.entry.ensures c.is_none.ensures z
