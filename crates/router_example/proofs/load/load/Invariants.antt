use Rattle.std.proofs.Common.{◌≡◌, false}
use Rattle.router_example.proofs.load.load.Given as goal

abbrev pub invariant-loop-event : goal.invariant-loop-event
invariant-loop-event g l = record { loading : l.engine.loaded ≡ false; none : l.engine.events ≡ 0 }
