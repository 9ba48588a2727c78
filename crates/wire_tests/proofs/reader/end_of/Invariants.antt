use Rattle.std.proofs.Common.{length}
use Rattle.mrt_read.specs.Standing.{reader_left}
use Rattle.wire_tests.proofs.reader.end_of.Given as goal

abbrev pub decreases-loop-events : goal.decreases-loop-events
decreases-loop-events l = length (reader_left l.reader)
