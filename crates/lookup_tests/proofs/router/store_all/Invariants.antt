use Rattle.std.proofs.Common.{◌≡◌}
use Rattle.fib_router.specs.Router.{IsBegunIn, begun_elem, stores_left_of}
use Rattle.lookup_tests.proofs.router.store_all.Given as goal

abbrev pub invariant-loop-stores : goal.invariant-loop-stores
invariant-loop-stores l = record { token : IsBegunIn l.begun l.router; elem : begun_elem l.begun ≡ begun_elem l.fn.begun; held : l.router.held ≡ l.fn.router.held }

abbrev pub decreases-loop-stores : goal.decreases-loop-stores
decreases-loop-stores l = stores_left_of l.begun l.router
