use Rattle.std.proofs.Common.{arith, ◌-◌}
use Rattle.orig_tree.specs.Arena.{cells_of}
use Rattle.orig_tree.proofs.Counting.{count_end, count_node}
use Rattle.orig_tree.proofs.count.+count.Goals as goal

pub count-returns-then-depth-eq0 : goal.count-returns-then-depth-eq0
count-returns-then-depth-eq0 t c = count_end (cells_of c.args.nodes.now) c.args.i c.args.depth c.if-depth-eq0.true

pub count-returns : goal.count-returns
count-returns t c = count_node (cells_of c.args.nodes.now) c.args.i (c.args.depth - 1) c.args.depth c.read-node.result c.read-node.ensures (omega (arith, c.if-depth-eq0.false)) c.half.result c.half-2.result c.count_half-low.result c.count_half-high.result c.saturating_add.result _ c.half.ensures c.half-2.ensures c.count_half-low.ensures c.count_half-high.ensures c.saturating_add.ensures c.saturating_add-2.ensures
