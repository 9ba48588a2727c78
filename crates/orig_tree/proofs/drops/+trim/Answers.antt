use Rattle.std.proofs.Common.{arith, ap, ◌∙◌}
use Rattle.std.specs.Option.{is_some}
use Rattle.orig_tree.specs.Arena.{cells_of}
use Rattle.orig_tree.proofs.Dropping.{no_level, half_tree, half_none, half_stays, half_goes, trim_end, trim_node_high, trim_node_low}
use Rattle.orig_tree.proofs.drops.+trim.Goals as goal

pub trim-returns-then-path-eq0-clause-trimmed : goal.trim-returns-then-path-eq0-clause-trimmed
trim-returns-then-path-eq0-clause-trimmed t c = λ d name spares p l s h. trim_end d (cells_of c.args.nodes.now) (cells_of c.prune.new.nodes) c.prune.new.nodes.free name c.args.i p c.args.path.left c.args.path.bits c.prune.result c.if-path-eq0.true (c.prune.ensures.trimmed d name spares p l s h)

pub trim-returns-then-bit_at-clause-trimmed : goal.trim-returns-then-bit_at-clause-trimmed
trim-returns-then-bit_at-clause-trimmed t c = trim_node_high (cells_of c.args.nodes.now) c.args.nodes.now.free c.args.i c.args.depth c.read-node.result c.has_label.result c.any.result c.is_some.result c.trim_half-high.result
    c.read-node.ensures c.has_label.ensures c.any.ensures c.args.path.bits c.args.path.left (cells_of c.trim_half-high.new.nodes) (cells_of c.settle.new.nodes)
    c.trim_half-high.new.nodes.free c.settle.new.nodes.free c.if-path-eq0.false c.if-bit_at.ensures (c.is_some.ensures ∙ ap is_some c.half.ensures) c.trim_half-high.ensures.trimmed c.settle.ensures.cells c.settle.ensures.free

pub trim-returns-clause-trimmed : goal.trim-returns-clause-trimmed
trim-returns-clause-trimmed t c = trim_node_low (cells_of c.args.nodes.now) c.args.nodes.now.free c.args.i c.args.depth c.read-node.result c.has_label-2.result c.any-2.result c.trim_half-low.result c.is_some-2.result
    c.read-node.ensures c.has_label-2.ensures c.any-2.ensures c.args.path.bits c.args.path.left (cells_of c.trim_half-low.new.nodes) (cells_of c.settle-2.new.nodes)
    c.trim_half-low.new.nodes.free c.settle-2.new.nodes.free c.if-path-eq0.false c.if-bit_at.ensures (c.is_some-2.ensures ∙ ap is_some c.half-2.ensures) c.trim_half-low.ensures.trimmed c.settle-2.ensures.cells c.settle-2.ensures.free

pub trim_half-returns-then-half-eq0-clause-trimmed : goal.trim_half-returns-then-half-eq0-clause-trimmed
trim_half-returns-then-half-eq0-clause-trimmed t c = λ d name spares p l s h. half_none d _ (cells_of c.args.nodes.now) c.args.nodes.now.free name spares c.args.half p c.if-half-eq0.true h

pub trim_half-returns-then-depth-eq0-clause-trimmed : goal.trim_half-returns-then-depth-eq0-clause-trimmed
trim_half-returns-then-depth-eq0-clause-trimmed t c = λ d name spares p l s h. absurd (no_level d c.args.depth (cells_of c.args.nodes.now) name c.args.half p l c.if-depth-eq0.true c.if-half-eq0.false s)

pub trim_half-returns-then-trim-clause-trimmed : goal.trim_half-returns-then-trim-clause-trimmed
trim_half-returns-then-trim-clause-trimmed t c = λ d name spares p l s h. half_stays d _ (cells_of c.args.nodes.now) (cells_of c.trim.new.nodes) c.trim.new.nodes.free name c.args.half p c.trim.result c.if-half-eq0.false c.if-trim.true
    (c.trim.ensures.trimmed d name spares p (omega (arith, l, c.if-depth-eq0.false)) (half_tree d (cells_of c.args.nodes.now) name c.args.half p c.if-half-eq0.false s) h)

pub trim_half-returns-clause-trimmed : goal.trim_half-returns-clause-trimmed
trim_half-returns-clause-trimmed t c = λ d name spares p l s h. half_goes d _ (cells_of c.args.nodes.now) (cells_of c.trim.new.nodes) (cells_of c.give.new.nodes) c.trim.new.nodes.free c.give.new.nodes.free name c.args.half p c.trim.result c.if-half-eq0.false c.if-trim.false
    (c.trim.ensures.trimmed d name spares p (omega (arith, l, c.if-depth-eq0.false)) (half_tree d (cells_of c.args.nodes.now) name c.args.half p c.if-half-eq0.false s) h) c.give.ensures.cells c.give.ensures.free

pub trim-returns-then-bit_at-clause-kept : goal.trim-returns-then-bit_at-clause-kept
trim-returns-then-bit_at-clause-kept t c = c.settle.ensures.kept ∙ c.trim_half-high.ensures.kept

pub trim-returns-clause-kept : goal.trim-returns-clause-kept
trim-returns-clause-kept t c = c.settle-2.ensures.kept ∙ c.trim_half-low.ensures.kept

pub trim_half-returns-clause-kept : goal.trim_half-returns-clause-kept
trim_half-returns-clause-kept t c = c.give.ensures.kept ∙ c.trim.ensures.kept
