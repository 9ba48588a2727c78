use Rattle.std.proofs.Common.{◌≡◌, ◌+◌, ◌-◌, ◌^◌, ◌<◌, ◌≤◌, length}
use Rattle.mrt_read.proofs.Fed.{IsFed}
use Rattle.mrt_read.specs.Standing.{ReaderIsUsedUp, reader_left}
use Rattle.part_count.proofs.Counting.{Counting}
use Rattle.part_count.proofs.count.count_through.Given as goal

abbrev pub invariant-loop-more : goal.invariant-loop-more
invariant-loop-more g l = record {
  some : 0 < length l.room;
  within : l.at ≤ 2 ^ 36;
  fed : IsFed l.reader l.at;
  stands : Counting (g.I.Inputs.content l.fn.inputs l.name) l.reader l.at l.events;
  used : ReaderIsUsedUp l.reader;
  same : g.I.Inputs.content l.inputs ≡ g.I.Inputs.content l.fn.inputs;
  kept : g.I.Inputs.faults l.inputs ≡ g.I.Inputs.faults l.fn.inputs;
}

abbrev pub decreases-loop-more : goal.decreases-loop-more
decreases-loop-more g l = (2 ^ 36 + 1) - l.at

abbrev pub invariant-loop-more-2 : goal.invariant-loop-more-2
invariant-loop-more-2 g l = record {
  some : 0 < length l.room;
  within : l.at ≤ 2 ^ 36;
  fed : IsFed l.reader l.at;
  stands : Counting (g.I.Inputs.content l.fn.inputs l.name) l.reader l.at l.events;
  same : g.I.Inputs.content l.inputs ≡ g.I.Inputs.content l.fn.inputs;
  kept : g.I.Inputs.faults l.inputs ≡ g.I.Inputs.faults l.fn.inputs;
}

abbrev pub decreases-loop-more-2 : goal.decreases-loop-more-2
decreases-loop-more-2 g l = length (reader_left l.reader)
