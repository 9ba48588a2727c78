use Rattle.fib_save.proofs.Taking.{event_taken, events_taken}
use Rattle.fib_save.proofs.take.take_events.Goals as goal

pub loop-event-preserved : goal.loop-event-preserved
loop-event-preserved c = event_taken c.args.candidates.now.candidates c.loop-event.candidates.candidates c.take_event.new.candidates.candidates c.args.events.now c.loop-event.event-index c.event-item.result c.loop-event-test.true c.event-item.is c.in_ok-take_event.ensures c.loop-event.invariant

pub returns : goal.returns
returns c = events_taken c.args.candidates.now.candidates c.loop-event.candidates.candidates c.args.events.now c.loop-event.event-index c.loop-event-test.false c.loop-event.invariant
