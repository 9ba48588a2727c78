use Rattle.std.proofs.Common.{◌+◌, ◌≤◌, length}
use Rattle.mrt_read.specs.Standing.{reader_left, reader_records}
use Rattle.wire_tests.proofs.reader.take_all.Given as goal

abbrev pub invariant-loop-more : goal.invariant-loop-more
invariant-loop-more l = reader_records l.reader + length (reader_left l.reader) ≤ reader_records l.fn.reader + length (reader_left l.fn.reader)

abbrev pub decreases-loop-more : goal.decreases-loop-more
decreases-loop-more l = length (reader_left l.reader)
