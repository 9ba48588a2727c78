use Rattle.std.proofs.Common.{◌≡◌, false}
use Rattle.lookup_tests.proofs.engine.load.Given as goal

-- the load goes on, and nothing came after it
abbrev pub invariant-loop-net : goal.invariant-loop-net
invariant-loop-net l = record {
  loaded : l.engine.loaded ≡ false;
  events : l.engine.events ≡ l.fn.engine.events;
}
