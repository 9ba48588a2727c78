use Rattle.std.proofs.Common.{◌≡◌}
use Rattle.table_model.specs.declared.family.Family.{Family}
use Rattle.fib_router.specs.Lives.{StoresOn, live_of}
use Rattle.fib_router.specs.Router.{IsBegunIn, begun_elem, stores_left_of}
use Rattle.fib_router.proofs.router.Router.finish.Given as goal

abbrev pub invariant-loop : goal.invariant-loop
invariant-loop l = record { token : IsBegunIn l.begun l.self; elem : begun_elem l.begun ≡ begun_elem l.initial.begun; held : l.self.held ≡ l.initial.self.held; lives : (f : Family) → StoresOn (live_of f l.initial.self.lives) (live_of f l.self.lives) }

abbrev pub decreases-loop : goal.decreases-loop
decreases-loop l = stores_left_of l.begun l.self
