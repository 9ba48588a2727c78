use Rattle.std.proofs.Common.{◌≡◌, List, ◌++◌, length, take, map}
use Rattle.route_model.specs.Events.{Elem}
use Rattle.fib_prefix.specs.Views.{event_as}
use Rattle.fib_run.specs.Counts.{CountsOn}
use Rattle.fib_due.specs.Refusals.{Limits}
use Rattle.fib_run.specs.Standing.{IsAtEvent, StateStands, next_elems}
use Rattle.fib_run.proofs.state.take_events.Given as goal

-- the events so far were counted and taken
abbrev pub invariant-loop-event : goal.invariant-loop-event
invariant-loop-event l = record {
  counts : CountsOn l.fn.state.engine.candidates (map event_as (take l.event-index l.events)) l.fn.before l.count l.state.engine.candidates;
  ready : IsAtEvent l.fn.which l.count l.state.engine;
  taken : (limits : Limits) (before done : List Elem) → l.fn.before ≡ length done → StateStands l.fn.which limits before done l.fn.state → (l.count ≡ length (done ++ next_elems before done (map event_as (take l.event-index l.events)))) × StateStands l.fn.which limits before (done ++ next_elems before done (map event_as (take l.event-index l.events))) l.state;
}
