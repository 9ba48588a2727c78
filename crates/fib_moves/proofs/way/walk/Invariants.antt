use Rattle.std.proofs.Common.{◌≤◌}
use Rattle.table_model.specs.Bits.{bits_of}
use Rattle.table_model.specs.Entries.{of_family}
use Rattle.fib_moves.specs.Ways.{IsGone}
use Rattle.fib_moves.proofs.way.walk.Given as goal

abbrev pub invariant-loop-left : goal.invariant-loop-left
invariant-loop-left l = record {
  few : l.left ≤ l.fn.prefix.len;
  gone : IsGone l.fn.tree.family (of_family l.fn.tree.family l.fn.tree.routes) (of_family l.fn.tree.family l.fn.tree.entries) (bits_of l.fn.prefix.len l.q) (bits_of l.left l.q) l.way;
}

abbrev pub decreases-loop-left : goal.decreases-loop-left
decreases-loop-left l = l.left
