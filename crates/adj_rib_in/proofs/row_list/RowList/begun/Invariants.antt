use Rattle.std.specs.Prelude.{◌-◌, length}
use Rattle.adj_rib_in.specs.Slots.{begun}
use Rattle.adj_rib_in.proofs.Runs.{IsBetween}
use Rattle.adj_rib_in.proofs.row_list.RowList.begun.Given as goal

abbrev pub invariant-loop-from : goal.invariant-loop-from
invariant-loop-from l = IsBetween l.from (begun l.self-inside.list.items l.at) l.to (length l.self-inside.list.items)

abbrev pub decreases-loop-from : goal.decreases-loop-from
decreases-loop-from l = l.to - l.from
