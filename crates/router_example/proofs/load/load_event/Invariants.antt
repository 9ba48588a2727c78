use Rattle.std.proofs.Common.{◌≡◌, false}
use Rattle.router_example.proofs.load.load_event.Given as goal

abbrev pub invariant-loop-elem : goal.invariant-loop-elem
invariant-loop-elem l = record { loading : l.engine.loaded ≡ false; none : l.engine.events ≡ 0 }
