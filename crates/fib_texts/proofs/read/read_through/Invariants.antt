use Rattle.std.proofs.Common.{◌≡◌, ◌+◌, ◌-◌, ◌^◌, ◌<◌, ◌≤◌, length}
use Rattle.fib_io.specs.Reads.{Makes, ReadsLead}
use Rattle.printed_text.specs.Pieces.{most_lines}
use Rattle.fib_texts.proofs.Reading.{IsFed}
use Rattle.fib_texts.proofs.read.read_through.Given as goal

abbrev pub invariant-loop-reader : goal.invariant-loop-reader
invariant-loop-reader g l = record {
  some : 0 < length l.room;
  within : l.at ≤ 2 ^ 36;
  counts : most_lines l.reader ≤ l.at;
  fed : IsFed (g.I.Inputs.content l.fn.inputs l.name) l.reader l.at;
  same : g.I.Inputs.content l.inputs ≡ g.I.Inputs.content l.fn.inputs;
  kept : g.I.Inputs.faults l.inputs ≡ g.I.Inputs.faults l.fn.inputs;
  made : Makes (g.I.Inputs.reads l.fn.inputs) (g.I.Inputs.reads l.inputs) (ReadsLead l.name 0 l.at);
}

abbrev pub decreases-loop-reader : goal.decreases-loop-reader
decreases-loop-reader g l = (2 ^ 36 + 1) - l.at
