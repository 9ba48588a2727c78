use Rattle.std.proofs.Common.{◌≡◌, ◌≤◌, None}
use Rattle.lookup_tests.proofs.router.first_wrong.Given as goal

-- no event is begun, and at most one was taken a call
abbrev pub invariant-loop-place : goal.invariant-loop-place
invariant-loop-place l = record { rest : l.router.begun ≡ None; few : l.router.held.events ≤ l.place }
