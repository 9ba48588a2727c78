use Rattle.std.proofs.Common.{◌≡◌}
use Rattle.fib_router.specs.Router.{IsBegunIn, stores_left_of}
use Rattle.router_example.specs.Beside.{GoOnBeside}
use Rattle.router_example.proofs.session.Session.carry_out.Given as goal

abbrev pub invariant-loop : goal.invariant-loop
invariant-loop l = record { token : IsBegunIn l.begun l.self.router; held : l.self.router.held ≡ l.fn.self.router.held; taken : l.self.taken ≡ l.fn.self.taken; beside : GoOnBeside l.self.router l.self.lookups }

abbrev pub decreases-loop : goal.decreases-loop
decreases-loop l = stores_left_of l.begun l.self.router
