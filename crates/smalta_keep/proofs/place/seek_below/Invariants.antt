use Rattle.std.proofs.Common.{◌≡◌, ◌≤◌, false}
use Rattle.table_model.specs.Bits.{bits_of}
use Rattle.table_model.specs.Table.{cut}
use Rattle.kept_model.specs.Stays.{NoneAround}
use Rattle.smalta_keep.proofs.place.seek_below.Given as goal

abbrev pub invariant-loop-left : goal.invariant-loop-left
invariant-loop-left l = record {
  few : l.left ≤ l.fn.left;
  routes : cut (bits_of l.left l.q) l.node.routes ≡ cut (bits_of l.fn.left l.q) l.fn.node.routes;
  entries : cut (bits_of l.left l.q) l.node.entries ≡ cut (bits_of l.fn.left l.q) l.fn.node.entries;
  marked : (l.marked ≡ false) × NoneAround (bits_of l.left l.q) l.node.entries → (l.fn.marked ≡ false) × NoneAround (bits_of l.fn.left l.q) l.fn.node.entries;
}

abbrev pub decreases-loop-left : goal.decreases-loop-left
decreases-loop-left l = l.left
