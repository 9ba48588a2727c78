use Rattle.std.proofs.Common.{Some, ap, subst, sym}
use Rattle.std.specs.Prelude.{Option}
use Rattle.fib_addr.specs.declared.prefix.Prefix as code
use Rattle.fib_prefix.specs.declared.event.Via.{Via}
use Rattle.adj_rib_in.specs.Bests.{IsBestHeld}
use Rattle.adj_rib_in.proofs.Betters.{best_as}
use Rattle.route_choice.proofs.Best.{best_is}
use Rattle.route_choice.proofs.both.best_beside.Goals as goal

-- the best of the ordered maps, by the path key's own prefix and path source
pub returns : goal.returns
returns c =
    let over = c.args.paths.now.entries in
    let other = c.best_but-other.result in
    let best = best_is over c.args.ranks.now.keys c.prefix-prefix.result (Some c.via.result) c.requires.indexed c.best_but-other.ensures.ordered other (sym c.best_but-other.ensures.first) in
    best_as c.args.flat.now c.prefix-prefix.result c.args.key.now.prefix (Some c.via.result) (Some c.args.key.now.via) other c.best_near.result c.prefix-prefix.ensures (ap Some c.via.ensures) c.best_near.ensures over c.requires.apart
    (subst (λ (w : Option Via). IsBestHeld over w c.args.key.now.prefix other) (ap Some c.via.ensures) (subst (λ (r : code.Prefix). IsBestHeld over (Some c.via.result) r other) c.prefix-prefix.ensures best))
