use Rattle.std.proofs.Common.{◌≡◌, ◌≤◌, ◌+◌, ◌-◌, ◌^◌, ◌<◌, length}
use Rattle.std.specs.Prelude.{IfSome}
use Rattle.fib_io.specs.Reads.{ReadsLead, Makes}
use Rattle.fib_io.proofs.Coming.{ReadOn}
use Rattle.fib_io.proofs.pieces.read_through.Given as goal

abbrev pub invariant-loop-octets : goal.invariant-loop-octets
invariant-loop-octets g l = record {
  some : 0 < length l.room;
  most : length l.octets.items ≤ 2 ^ 36;
  on : IfSome (g.I.Inputs.content l.fn.inputs l.name) (ReadOn l.octets.items);
  same : g.I.Inputs.content l.inputs ≡ g.I.Inputs.content l.fn.inputs;
  kept : g.I.Inputs.faults l.inputs ≡ g.I.Inputs.faults l.fn.inputs;
  made : Makes (g.I.Inputs.reads l.fn.inputs) (g.I.Inputs.reads l.inputs) (ReadsLead l.name 0 (length l.octets.items));
}

abbrev pub decreases-loop-octets : goal.decreases-loop-octets
decreases-loop-octets g l = (2 ^ 36 + 1) - length l.octets.items
