use Rattle.std.proofs.Common.{◌≡◌, ◌++◌, take, drop, map}
use Rattle.fib_prefix.specs.Views.{event_as}
use Rattle.fib_report.specs.Views.{invalid_as}
use Rattle.fib_rov.specs.Rov.{invalid_in, left_of}
use Rattle.fib_rov.proofs.vrps.Vrps.judge_all.Given as goal

-- what is left of the events so far, and then of the others, and the rows of all of them
abbrev pub invariant-loop-event : goal.invariant-loop-event
invariant-loop-event l = record {
  left : map event_as (take l.event-index l.events) ++ left_of l.self (map event_as (drop l.event-index l.events)) ≡ left_of l.self (map event_as l.fn.events);
  noted : map invalid_as l.invalid.items ++ invalid_in l.self (map event_as (drop l.event-index l.events)) ≡ map invalid_as l.fn.invalid.items ++ invalid_in l.self (map event_as l.fn.events);
}
