use Rattle.std.proofs.Common.{Option, sym, subst}
use Rattle.route_model.specs.Events.{Elem}
use Rattle.fib_router.specs.Lives.{AreLives}
use Rattle.fib_router.proofs.router.Router.new.Goals as goal

pub invariant_of-result : goal.invariant_of-result
invariant_of-result c = subst (λ (o : Option Elem). AreLives c.staged-lower.result.held o c.in_ok-lives.lives) (sym c.staged-lower.ensures.rest) c.in_ok-lives.ensures.lives
