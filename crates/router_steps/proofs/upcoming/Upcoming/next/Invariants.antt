use Rattle.std.proofs.Common.{◌≡◌, length}
use Rattle.router_steps.specs.Upcoming.{to_come}
use Rattle.router_steps.proofs.upcoming.Upcoming.next.Given as goal

abbrev pub invariant-loop-self : goal.invariant-loop-self
invariant-loop-self l = to_come l.self l.fn.router.held.candidates ≡ to_come l.initial.self l.fn.router.held.candidates

abbrev pub decreases-loop-self : goal.decreases-loop-self
decreases-loop-self l = length l.self.events.now
