use Rattle.std.proofs.Common.{sym, subst}
use Rattle.fib_moves.specs.Views.{SameAllowed, allowed_as}
use Rattle.moves_model.specs.Sets.{inner_set}
use Rattle.fib_moves.specs.declared.needs.RegionNeeds.{RegionNeeds}
use Rattle.fib_moves.specs.declared.needs.RegionNeeds.TheViews.{out-RegionNeeds}
use Rattle.fib_moves.proofs.Parts.{known_bare, known_set}
use Rattle.fib_moves.proofs.needs.hops_of.Goals as goal

pub returns-in-Some : goal.returns-in-Some
returns-in-Some c = λ d f T k.
    subst (λ (x : RegionNeeds). SameAllowed (allowed_as (out-RegionNeeds x).hops) (inner_set d f T)) (sym c.deref.ensures) (known_set d f T c.args.needs.now k c.in-Some.needs c.in-Some.is)

pub returns-in-None : goal.returns-in-None
returns-in-None c = λ d f T k. known_bare d f T c.args.needs.now k c.in-None.is
