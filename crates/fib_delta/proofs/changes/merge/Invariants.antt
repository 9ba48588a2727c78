use Rattle.std.proofs.Common.{◌≡◌, ◌+◌, ◌-◌, ◌≤◌, ◌++◌, length, drop, map}
use Rattle.kept_model.specs.Between.{between}
use Rattle.fib_addr.specs.Views.{entry_as}
use Rattle.fib_delta.specs.Views.{change_as}
use Rattle.fib_delta.proofs.changes.merge.Given as goal

abbrev pub invariant-loop-i : goal.invariant-loop-i
invariant-loop-i l = record {
  low : l.i ≤ length l.old;
  high : l.j ≤ length l.new;
  changes : map change_as l.changes.items ++ between (map entry_as (drop l.i l.old)) (map entry_as (drop l.j l.new)) ≡ between (map entry_as l.old) (map entry_as l.new);
}

abbrev pub decreases-loop-i : goal.decreases-loop-i
decreases-loop-i l = (length l.old - l.i) + (length l.new - l.j)
