use Rattle.std.proofs.Common.{◌≡◌, false}
use Rattle.lookup_tests.proofs.router.load_crowd.Given as goal

-- the load goes on, and nothing came after it
abbrev pub invariant-loop-number : goal.invariant-loop-number
invariant-loop-number l = record { loading : l.engine.loaded ≡ false; none : l.engine.events ≡ 0 }
