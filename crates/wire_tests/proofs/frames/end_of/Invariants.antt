use Rattle.std.proofs.Common.{◌+◌, ◌≤◌, length}
use Rattle.mrt_read.specs.Framing.{framer_count, framer_left}
use Rattle.wire_tests.proofs.frames.end_of.Given as goal

abbrev pub invariant-loop-framed : goal.invariant-loop-framed
invariant-loop-framed l = framer_count l.framer + length (framer_left l.framer) ≤ framer_count l.fn.framer + length (framer_left l.fn.framer)

abbrev pub decreases-loop-framed : goal.decreases-loop-framed
decreases-loop-framed l = length (framer_left l.framer)
