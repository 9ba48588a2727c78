use Rattle.router_example.specs.Beside.{GoOn}
use Rattle.router_example.proofs.lookups.finish.Given as goal

abbrev pub invariant-loop : goal.invariant-loop
invariant-loop l = GoOn l.live l.lookups
