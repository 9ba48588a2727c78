use Rattle.std.proofs.Common.{◌≡◌, ℕ, ◌≤◌, take, drop, vec_len, vec_capacity}
use Rattle.orig_tree.specs.Arena.{cells_of}
use Rattle.orig_tree.specs.Bests.{best_in, changed, back}
use Rattle.orig_tree.proofs.best.commit.Given as goal

abbrev pub invariant-loop-change : goal.invariant-loop-change
invariant-loop-change l = record {
  rest : (j : ℕ) → j ≤ vec_len l.fn.nodes.halves → changed (drop l.change-index l.change-items) (best_in l.nodes) j ≡ changed l.fn.changes.items (best_in l.fn.nodes) j;
  back : (j : ℕ) → j ≤ vec_len l.fn.nodes.halves → back (take l.change-index l.change-items) (best_in l.nodes) j ≡ best_in l.fn.nodes j;
  cells : cells_of l.nodes ≡ cells_of l.fn.nodes;
  free : l.nodes.free ≡ l.fn.nodes.free;
  capacity : vec_capacity l.nodes.halves ≡ vec_capacity l.fn.nodes.halves;
  len : vec_len l.nodes.halves ≡ vec_len l.fn.nodes.halves;
}
