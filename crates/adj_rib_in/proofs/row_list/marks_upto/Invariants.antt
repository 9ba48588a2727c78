use Rattle.std.specs.Prelude.{◌≤◌, ◌-◌, length}
use Rattle.adj_rib_in.proofs.row_list.marks_upto.Given as goal

abbrev pub invariant-loop-from : goal.invariant-loop-from
invariant-loop-from l = (l.from ≤ l.to) × (l.to ≤ length l.marks)

abbrev pub decreases-loop-from : goal.decreases-loop-from
decreases-loop-from l = l.to - l.from
