use Rattle.std.proofs.Common.{◌≡◌, ◌+◌, ◌-◌, ◌<◌, ◌≤◌, take}
use Rattle.table_model.specs.Bits.{bits_of}
use Rattle.fib_addr.specs.Answers.{part}
use Rattle.route_tries.proofs.deep.along.Given as goal

abbrev pub invariant-loop-at : goal.invariant-loop-at
invariant-loop-at g l = record {
  some : l.end ≤ l.at;
  few : l.at < l.left;
  bits : g.R.Region.bits l.part + l.left ≡ g.R.Region.bits l.region + l.at;
  answers : part (take (l.at - l.end) (bits_of l.at l.q)) (g.R.Region.answers l.part) ≡ part (take l.depth (bits_of l.left l.q)) (g.R.Region.answers l.region);
}

abbrev pub decreases-loop-at : goal.decreases-loop-at
decreases-loop-at g l = l.at
