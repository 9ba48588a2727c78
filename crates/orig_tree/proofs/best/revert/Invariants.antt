use Rattle.std.proofs.Common.{◌≡◌, ℕ, ◌≤◌, vec_len}
use Rattle.orig_tree.specs.Arena.{cells_of}
use Rattle.orig_tree.specs.Bests.{best_in, back}
use Rattle.orig_tree.proofs.best.revert.Given as goal

abbrev pub invariant-loop-last : goal.invariant-loop-last
invariant-loop-last l = record {
  rest : (j : ℕ) → j ≤ vec_len l.fn.nodes.halves → back l.changes.items (best_in l.nodes) j ≡ back l.fn.changes.items (best_in l.fn.nodes) j;
  cells : cells_of l.nodes ≡ cells_of l.fn.nodes;
  free : l.nodes.free ≡ l.fn.nodes.free;
  len : vec_len l.nodes.halves ≡ vec_len l.fn.nodes.halves;
}

abbrev pub decreases-loop-last : goal.decreases-loop-last
decreases-loop-last l = goal.left-loop-last l
