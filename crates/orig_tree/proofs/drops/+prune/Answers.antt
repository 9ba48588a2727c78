use Rattle.std.proofs.Common.{arith, ◌∙◌}
use Rattle.orig_tree.specs.Arena.{cells_of}
use Rattle.orig_tree.proofs.Dropping.{no_level, half_tree, half_none, half_stays, half_goes, prune_node}
use Rattle.orig_tree.proofs.drops.+prune.Goals as goal

pub prune-returns-clause-trimmed : goal.prune-returns-clause-trimmed
prune-returns-clause-trimmed t c = prune_node (cells_of c.args.nodes.now) c.args.nodes.now.free c.args.i c.args.depth c.read-node.result c.has_label.result c.any.result c.prune_half-low.result c.prune_half-high.result
    c.read-node.ensures c.has_label.ensures c.any.ensures (cells_of c.prune_half-low.new.nodes) (cells_of c.prune_half-high.new.nodes) (cells_of c.settle.new.nodes)
    c.prune_half-low.new.nodes.free c.prune_half-high.new.nodes.free c.settle.new.nodes.free c.prune_half-low.ensures.trimmed c.prune_half-high.ensures.trimmed c.settle.ensures.cells c.settle.ensures.free

pub prune_half-returns-then-half-eq0-clause-trimmed : goal.prune_half-returns-then-half-eq0-clause-trimmed
prune_half-returns-then-half-eq0-clause-trimmed t c = λ d name spares p l s h. half_none d _ (cells_of c.args.nodes.now) c.args.nodes.now.free name spares c.args.half p c.if-half-eq0.true h

pub prune_half-returns-then-depth-eq0-clause-trimmed : goal.prune_half-returns-then-depth-eq0-clause-trimmed
prune_half-returns-then-depth-eq0-clause-trimmed t c = λ d name spares p l s h. absurd (no_level d c.args.depth (cells_of c.args.nodes.now) name c.args.half p l c.if-depth-eq0.true c.if-half-eq0.false s)

pub prune_half-returns-then-prune-clause-trimmed : goal.prune_half-returns-then-prune-clause-trimmed
prune_half-returns-then-prune-clause-trimmed t c = λ d name spares p l s h. half_stays d _ (cells_of c.args.nodes.now) (cells_of c.prune.new.nodes) c.prune.new.nodes.free name c.args.half p c.prune.result c.if-half-eq0.false c.if-prune.true
    (c.prune.ensures.trimmed d name spares p (omega (arith, l, c.if-depth-eq0.false)) (half_tree d (cells_of c.args.nodes.now) name c.args.half p c.if-half-eq0.false s) h)

pub prune_half-returns-clause-trimmed : goal.prune_half-returns-clause-trimmed
prune_half-returns-clause-trimmed t c = λ d name spares p l s h. half_goes d _ (cells_of c.args.nodes.now) (cells_of c.prune.new.nodes) (cells_of c.give.new.nodes) c.prune.new.nodes.free c.give.new.nodes.free name c.args.half p c.prune.result c.if-half-eq0.false c.if-prune.false
    (c.prune.ensures.trimmed d name spares p (omega (arith, l, c.if-depth-eq0.false)) (half_tree d (cells_of c.args.nodes.now) name c.args.half p c.if-half-eq0.false s) h) c.give.ensures.cells c.give.ensures.free

pub prune-returns-clause-kept : goal.prune-returns-clause-kept
prune-returns-clause-kept t c = c.settle.ensures.kept ∙ (c.prune_half-high.ensures.kept ∙ c.prune_half-low.ensures.kept)

pub prune_half-returns-clause-kept : goal.prune_half-returns-clause-kept
prune_half-returns-clause-kept t c = c.give.ensures.kept ∙ c.prune.ensures.kept
