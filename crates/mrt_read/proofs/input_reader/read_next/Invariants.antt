use Rattle.std.proofs.Common.{◌≡◌, ◌+◌, ◌-◌, ◌^◌, ◌<◌, ◌≤◌, length}
use Rattle.fib_io.specs.Reads.{ReadsLead, Makes}
use Rattle.mrt_read.specs.InputReading.{BeginCut, FeedsUpTo, HoldsNoMore}
use Rattle.mrt_read.proofs.input_reader.read_next.Given as goal

abbrev pub invariant-loop-inputs : goal.invariant-loop-inputs
invariant-loop-inputs g l = record {
  some : 0 < length l.room;
  within : l.at ≤ 2 ^ 36;
  few : HoldsNoMore l.reader l.at;
  fed : FeedsUpTo (g.I.Inputs.content l.fn.inputs l.name) l.fn.at l.fn.reader l.at l.reader;
  same : g.I.Inputs.content l.inputs ≡ g.I.Inputs.content l.fn.inputs;
  kept : g.I.Inputs.faults l.inputs ≡ g.I.Inputs.faults l.fn.inputs;
  leads : Makes (g.I.Inputs.reads l.fn.inputs) (g.I.Inputs.reads l.inputs) (ReadsLead l.name l.fn.at l.at);
  cuts : Makes (g.I.Inputs.reads l.fn.inputs) (g.I.Inputs.reads l.inputs) (BeginCut (g.I.Inputs.content l.fn.inputs l.name) l.fn.at l.fn.reader);
}

abbrev pub decreases-loop-inputs : goal.decreases-loop-inputs
decreases-loop-inputs g l = (2 ^ 36 + 1) - l.at
