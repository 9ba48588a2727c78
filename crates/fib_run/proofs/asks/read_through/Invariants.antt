use Rattle.std.proofs.Common.{◌≡◌, ◌+◌, ◌-◌, ◌^◌, ◌<◌, ◌≤◌, length}
use Rattle.fib_io.specs.Reads.{AreInTime, ReadsLead, Makes}
use Rattle.fib_due.specs.InTime.{AsksMayGoOn}
use Rattle.fib_run.proofs.AskReading.{Asking}
use Rattle.fib_run.proofs.asks.read_through.Given as goal

abbrev pub invariant-loop-reader : goal.invariant-loop-reader
invariant-loop-reader g l = record {
  some : 0 < length l.room;
  within : l.at ≤ 2 ^ 36;
  stands : Asking (g.I.Inputs.content l.fn.inputs l.name) l.reader l.at;
  same : g.I.Inputs.content l.inputs ≡ g.I.Inputs.content l.fn.inputs;
  kept : g.I.Inputs.faults l.inputs ≡ g.I.Inputs.faults l.fn.inputs;
  made : Makes (g.I.Inputs.reads l.fn.inputs) (g.I.Inputs.reads l.inputs) (ReadsLead l.name 0 l.at);
  in_time : Makes (g.I.Inputs.reads l.fn.inputs) (g.I.Inputs.reads l.inputs) (AreInTime (g.I.Inputs.content l.fn.inputs l.name) AsksMayGoOn);
}

abbrev pub decreases-loop-reader : goal.decreases-loop-reader
decreases-loop-reader g l = (2 ^ 36 + 1) - l.at
