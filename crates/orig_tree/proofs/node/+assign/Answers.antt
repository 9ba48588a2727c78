use Rattle.orig_tree.specs.Arena.{cells_of}
use Rattle.std.proofs.Common.{refl, sym, ◌∙◌, ap}
use Rattle.orig_tree.specs.Arena.{half_place}
use Rattle.orig_tree.proofs.Arena.{set_here, set_none, renewed, tree_long}
use Rattle.orig_tree.proofs.Halving.{halves_same, halves_after, halves_retold}
use Rattle.orig_tree.proofs.Placing.{climb_halves, set_climbed}
use Rattle.orig_tree.proofs.node.+assign.Goals as goal

pub returns-then-path-eq0-clause-set : goal.returns-then-path-eq0-clause-set
returns-then-path-eq0-clause-set t c = λ d name p l s a. set_here c.args.label c.args.path.bits c.args.path.left c.args.hop (cells_of c.args.nodes.now) c.args.i _ refl (cells_of c.update_node.new.nodes) _ d name p c.if-path-eq0.true refl c.update_node.ensures.cells s

pub returns-then-path-eq0-clause-same : goal.returns-then-path-eq0-clause-same
returns-then-path-eq0-clause-same t c = λ d name p l s a e. renewed c.args.label (cells_of c.args.nodes.now) (cells_of c.args.nodes.now) (cells_of c.update_node.new.nodes) c.args.i _ _ refl (tree_long d (cells_of c.args.nodes.now) name c.args.i p s) c.update_node.ensures.cells (c.update_node.ensures.same e)

pub returns-in-None-clause-set : goal.returns-in-None-clause-set
returns-in-None-clause-set t c = λ d name p l s a. set_none c.args.label c.args.path.bits c.args.path.left c.args.hop (cells_of c.args.nodes.now) c.args.i c.read.result c.read.ensures c.bit_at.result d name p c.if-path-eq0.false c.bit_at.ensures (sym c.half.ensures ∙ c.in-None.is) s a

pub returns-in-None-clause-same : goal.returns-in-None-clause-same
returns-in-None-clause-same t c = λ d name p l s a e. refl

pub returns-in-Some-clause-set : goal.returns-in-Some-clause-set
returns-in-Some-clause-set t c = λ d name p l s a. (set_climbed c.args.label c.args.path.bits c.args.path.left c.args.hop (cells_of c.args.nodes.now) (cells_of c.assign-changed.new.nodes) (cells_of c.climb.new.nodes) c.args.i c.in-Some.j c.bit_at.result c.assign-changed.result c.climb.result d name p
    c.if-path-eq0.false c.bit_at.ensures (ap (λ n. half_place n c.bit_at.result) (sym c.read.ensures) ∙ (sym c.half.ensures ∙ c.in-Some.is)) l s a
    (λ e v m u b. (c.assign-changed.ensures.set e name v m u b, c.assign-changed.ensures.same e name v m u b)) c.climb.ensures.climbs).0

pub returns-in-Some-clause-same : goal.returns-in-Some-clause-same
returns-in-Some-clause-same t c = λ d name p l s a. (set_climbed c.args.label c.args.path.bits c.args.path.left c.args.hop (cells_of c.args.nodes.now) (cells_of c.assign-changed.new.nodes) (cells_of c.climb.new.nodes) c.args.i c.in-Some.j c.bit_at.result c.assign-changed.result c.climb.result d name p
    c.if-path-eq0.false c.bit_at.ensures (ap (λ n. half_place n c.bit_at.result) (sym c.read.ensures) ∙ (sym c.half.ensures ∙ c.in-Some.is)) l s a
    (λ e v m u b. (c.assign-changed.ensures.set e name v m u b, c.assign-changed.ensures.same e name v m u b)) c.climb.ensures.climbs).1

pub returns-then-path-eq0-clause-halves : goal.returns-then-path-eq0-clause-halves
returns-then-path-eq0-clause-halves t c = halves_retold (cells_of c.args.nodes.now) (cells_of c.args.nodes.now) (cells_of c.update_node.new.nodes) c.args.i c.args.label c.args.hop _ _ _ _ refl refl c.update_node.ensures.cells (halves_same (cells_of c.args.nodes.now))

pub returns-in-None-clause-halves : goal.returns-in-None-clause-halves
returns-in-None-clause-halves t c = halves_same (cells_of c.args.nodes.now)

pub returns-in-Some-clause-halves : goal.returns-in-Some-clause-halves
returns-in-Some-clause-halves t c = halves_after (cells_of c.args.nodes.now) (cells_of c.assign-changed.new.nodes) (cells_of c.climb.new.nodes) c.assign-changed.ensures.halves
    (climb_halves c.args.label (cells_of c.assign-changed.new.nodes) (cells_of c.climb.new.nodes) c.args.i c.assign-changed.result c.climb.result c.climb.ensures.climbs)

pub returns-in-Some-clause-kept : goal.returns-in-Some-clause-kept
returns-in-Some-clause-kept t c = c.climb.ensures.kept ∙ c.assign-changed.ensures.kept
