use Rattle.std.proofs.Common.{◌-◌, ◌≤◌, length}
use Rattle.mrt_read.proofs.Fed.{IsFed}
use Rattle.wire_tests.proofs.reader.take_in_pieces.Given as goal

abbrev pub invariant-loop-at : goal.invariant-loop-at
invariant-loop-at l = record {
  within : l.at ≤ length l.input;
  fed : IsFed l.reader l.at;
}

abbrev pub decreases-loop-at : goal.decreases-loop-at
decreases-loop-at l = length l.input - l.at
