use Rattle.std.proofs.Common.{◌≡◌, ◌≤◌, ◌+◌, ◌++◌, List, Bool}
use Rattle.table_model.specs.Bits.{bits_of}
use Rattle.table_model.specs.Table.{cut}
use Rattle.orig_tree.specs.Spots.{spot_answers}
use Rattle.orig_tree.specs.Within.{nodes_in}
use Rattle.orig_tree.proofs.region.below.Given as goal

abbrev pub invariant-loop-left : goal.invariant-loop-left
invariant-loop-left g l = record {
  few : l.left ≤ l.path.left;
  bits : l.region.bits + l.path.left ≡ l.fn.region.bits + l.left;
  answers : (a : List Bool) → spot_answers l.region (bits_of l.left l.path.bits ++ a) ≡ spot_answers l.fn.region (bits_of l.path.left l.path.bits ++ a);
  entries : cut (bits_of l.left l.path.bits) l.region.entries ≡ cut (bits_of l.path.left l.path.bits) l.fn.region.entries;
  nodes : nodes_in (bits_of l.left l.path.bits) l.region.nodes ≡ nodes_in (bits_of l.path.left l.path.bits) l.fn.region.nodes;
  steps : g.C.Counter.count l.steps + l.left ≤ g.C.Counter.count l.fn.steps + l.path.left;
}

abbrev pub decreases-loop-left : goal.decreases-loop-left
decreases-loop-left g l = l.left
