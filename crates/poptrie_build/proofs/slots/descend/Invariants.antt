use Rattle.std.proofs.Common.{◌≡◌, ◌+◌, ◌<◌}
use Rattle.table_model.specs.Bits.{bits_of}
use Rattle.fib_addr.specs.Answers.{part}
use Rattle.poptrie_build.proofs.slots.descend.Given as goal

abbrev pub invariant-loop-at : goal.invariant-loop-at
invariant-loop-at g l = record {
  few : l.at < l.depth;
  bits : g.R.Region.bits l.part + l.depth ≡ g.R.Region.bits l.region + l.at;
  answers : part (bits_of l.at l.bits) (g.R.Region.answers l.part) ≡ part (bits_of l.depth l.bits) (g.R.Region.answers l.region);
}

abbrev pub decreases-loop-at : goal.decreases-loop-at
decreases-loop-at g l = l.at
