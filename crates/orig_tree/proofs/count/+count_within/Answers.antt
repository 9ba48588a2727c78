use Rattle.std.proofs.Common.{arith, ap, sym, ◌∙◌, ◌-◌, suc}
use Rattle.table_model.specs.Bits.{bits_of}
use Rattle.orig_tree.specs.Arena.{cells_of, walks_at, from_half}
use Rattle.orig_tree.specs.Within.{nodes_in, told}
use Rattle.orig_tree.proofs.Counting.{within_end, within_step, none_in}
use Rattle.orig_tree.proofs.count.+count_within.Goals as goal

pub returns-then-path-eq0 : goal.returns-then-path-eq0
returns-then-path-eq0 t c = within_end _ c.args.path.left c.args.path.bits c.count.result c.if-path-eq0.true c.count.ensures

pub returns-in-None : goal.returns-in-None
returns-in-None t c = within_step (cells_of c.args.nodes.now) c.args.i (c.args.depth - 1) c.args.depth c.read.result c.read.ensures (omega (arith, c.if-path-eq0.false, c.requires.few)) c.args.path.left c.args.path.bits c.bit_at.result c.half.result _ c.if-path-eq0.false c.bit_at.ensures c.half.ensures
    (none_in (cells_of c.args.nodes.now) (c.args.depth - 1) c.half.result (bits_of (c.args.path.left - 1) c.args.path.bits) c.in-None.is)

pub returns-in-Some : goal.returns-in-Some
returns-in-Some t c = within_step (cells_of c.args.nodes.now) c.args.i (c.args.depth - 1) c.args.depth c.read.result c.read.ensures (omega (arith, c.if-path-eq0.false, c.requires.few)) c.args.path.left c.args.path.bits c.bit_at.result c.half.result _ c.if-path-eq0.false c.bit_at.ensures c.half.ensures
    (c.count_within.ensures ∙ ap (λ o. told (nodes_in (bits_of (c.args.path.left - 1) c.args.path.bits) (from_half (walks_at (suc (c.args.depth - 1)) (cells_of c.args.nodes.now)) o).nodes)) (sym c.in-Some.is))
