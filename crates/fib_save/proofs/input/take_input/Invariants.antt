use Rattle.std.proofs.Common.{◌≡◌, ◌+◌, ◌-◌, ◌^◌, ◌≤◌, length}
use Rattle.fib_io.specs.Reads.{AreInTime, ReadsLead, Makes}
use Rattle.mrt_read.specs.Standing.{reader_left}
use Rattle.mrt_read.specs.Whole.{MayGoOn}
use Rattle.fib_save.proofs.Taking.{Taking}
use Rattle.fib_save.proofs.input.take_input.Given as goal

abbrev pub invariant-loop-more : goal.invariant-loop-more
invariant-loop-more g l = record {
  within : l.reader.at ≤ 2 ^ 36;
  stands : Taking (g.I.Inputs.content l.fn.inputs l.name) l.fn.candidates.candidates l.reader.reader l.reader.at l.candidates.candidates;
  same : g.I.Inputs.content l.inputs ≡ g.I.Inputs.content l.fn.inputs;
  kept : g.I.Inputs.faults l.inputs ≡ g.I.Inputs.faults l.fn.inputs;
  made : Makes (g.I.Inputs.reads l.fn.inputs) (g.I.Inputs.reads l.inputs) (ReadsLead l.name 0 l.reader.at);
  in_time : Makes (g.I.Inputs.reads l.fn.inputs) (g.I.Inputs.reads l.inputs) (AreInTime (g.I.Inputs.content l.fn.inputs l.name) MayGoOn);
}

abbrev pub decreases-loop-more : goal.decreases-loop-more
decreases-loop-more g l = (2 ^ 36 - l.reader.at) + length (reader_left l.reader.reader)
