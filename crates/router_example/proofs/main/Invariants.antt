use Rattle.router_example.specs.Beside.{IsBetweenEvents}
use Rattle.router_example.proofs.main.Given as goal

abbrev pub invariant-loop-elem : goal.invariant-loop-elem
invariant-loop-elem l = IsBetweenEvents l.session

abbrev pub invariant-loop-event : goal.invariant-loop-event
invariant-loop-event l = IsBetweenEvents l.session
