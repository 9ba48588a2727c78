use Rattle.std.proofs.Common.{◌≡◌, ◌+◌, ◌-◌, ◌^◌, ◌≤◌, false, length}
use Rattle.mrt_read.specs.Standing.{reader_left}
use Rattle.part_count.proofs.load.load_all.Given as goal

abbrev pub invariant-loop-more : goal.invariant-loop-more
invariant-loop-more g l = record { within : l.reader.at ≤ 2 ^ 36; loading : l.engine.loaded ≡ false }

abbrev pub decreases-loop-more : goal.decreases-loop-more
decreases-loop-more g l = (2 ^ 36 - l.reader.at) + length (reader_left l.reader.reader)
