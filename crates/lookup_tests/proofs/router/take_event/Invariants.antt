use Rattle.std.proofs.Common.{◌≡◌, ◌≤◌, None}
use Rattle.lookup_tests.proofs.router.take_event.Given as goal

-- no event is begun, and each of the elements was one
abbrev pub invariant-loop-elem : goal.invariant-loop-elem
invariant-loop-elem l = record { rest : l.router.begun ≡ None; few : l.router.held.events ≤ l.elem-index }
