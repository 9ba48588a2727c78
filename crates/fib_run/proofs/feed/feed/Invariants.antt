use Rattle.std.proofs.Common.{◌≡◌, ◌+◌, ◌-◌, ◌^◌, ◌≤◌, List, [], length, map}
use Rattle.fib_io.specs.Reads.{AreInTime, ReadsLead, Makes}
use Rattle.fib_report.specs.Views.{invalid_as}
use Rattle.route_model.specs.Events.{Elem}
use Rattle.mrt_read.specs.Standing.{reader_left}
use Rattle.fib_due.specs.InTime.{FeedMayGoOn}
use Rattle.fib_due.specs.Refusals.{Limits}
use Rattle.fib_run.specs.Standing.{IsAtEvent, StateStands}
use Rattle.fib_run.proofs.Streaming.{Streaming}
use Rattle.fib_run.proofs.feed.feed.Given as goal

abbrev pub invariant-loop-invalid : goal.invariant-loop-invalid
invariant-loop-invalid g l = record {
  within : l.reader.at ≤ 2 ^ 36;
  ready : IsAtEvent l.fn.which l.events l.state.engine;
  stands : Streaming l.vrps l.fn.which (g.I.Inputs.content l.fn.inputs l.name) l.fn.state l.reader.reader l.state l.reader.at l.events (map invalid_as l.invalid.items);
  same : g.I.Inputs.content l.inputs ≡ g.I.Inputs.content l.fn.inputs;
  kept : g.I.Inputs.faults l.inputs ≡ g.I.Inputs.faults l.fn.inputs;
  made : Makes (g.I.Inputs.reads l.fn.inputs) (g.I.Inputs.reads l.inputs) (ReadsLead l.name 0 l.reader.at);
  in_time : (limits : Limits) (before : List Elem) → StateStands l.fn.which limits before [] l.fn.state → Makes (g.I.Inputs.reads l.fn.inputs) (g.I.Inputs.reads l.inputs) (AreInTime (g.I.Inputs.content l.fn.inputs l.name) (FeedMayGoOn limits.sizes l.vrps l.fn.which before));
}

abbrev pub decreases-loop-invalid : goal.decreases-loop-invalid
decreases-loop-invalid g l = (2 ^ 36 - l.reader.at) + length (reader_left l.reader.reader)
