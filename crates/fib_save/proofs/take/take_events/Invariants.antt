use Rattle.std.proofs.Common.{◌≡◌, drop, map}
use Rattle.fib_prefix.specs.Views.{event_as}
use Rattle.mrt_write.specs.Reads.{after_events}
use Rattle.fib_save.proofs.take.take_events.Given as goal

abbrev pub invariant-loop-event : goal.invariant-loop-event
invariant-loop-event l = after_events l.candidates.candidates (map event_as (drop l.event-index l.events)) ≡ after_events l.fn.candidates.candidates (map event_as l.events)
