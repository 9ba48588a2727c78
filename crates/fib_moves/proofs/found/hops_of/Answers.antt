use Rattle.std.proofs.Common.{sym, subst}
use Rattle.fib_moves.specs.Views.{SameAllowed, allowed_as}
use Rattle.moves_model.specs.Sets.{inner_set}
use Rattle.fib_moves.specs.declared.found.RegionHops.{RegionHops}
use Rattle.fib_moves.specs.declared.found.RegionHops.TheViews.{out-RegionHops}
use Rattle.fib_moves.proofs.Finding.{hops_bare, hops_set}
use Rattle.fib_moves.proofs.found.hops_of.Goals as goal

pub returns-in-Some : goal.returns-in-Some
returns-in-Some c = λ d f R T x.
    subst (λ (y : RegionHops). SameAllowed (allowed_as (out-RegionHops y).hops) (inner_set d f T)) (sym c.deref.ensures) (hops_set d f R T c.args.found.now x c.in-Some.found c.in-Some.is)

pub returns-in-None : goal.returns-in-None
returns-in-None c = λ d f R T x. hops_bare d f R T c.args.found.now x c.in-None.is
