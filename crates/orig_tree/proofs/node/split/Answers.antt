use Rattle.std.proofs.Common.{ap, sym, subst, ◌∙◌, ℕ, slice_set, ◌++◌, [], ◌∷◌, arith}
use Rattle.orig_tree.specs.Arena.{cells_of, half_place, IsSplit}
use Rattle.orig_tree.specs.Bests.{best_in}
use Rattle.orig_tree.proofs.Rooms.{split_is}
use Rattle.orig_tree.proofs.Stores.{put_same, bests_same}
use Rattle.orig_tree.proofs.node.split.Goals as goal

pub returns-clause-split : goal.returns-clause-split
returns-clause-split c = λ d name n p gone l t h. subst (λ (f : ℕ). IsSplit d c.args.bit (cells_of c.args.nodes.now) (cells_of c.put.new.nodes) f name c.args.i p c.take-at.result) (sym (c.put.ensures.free ∙ c.fill.ensures.free))
    (split_is (cells_of c.args.nodes.now) (cells_of c.take-at.new.nodes) (cells_of c.put.new.nodes) c.read-node.result c.leaf.result c.join_half-new.result c.args.i c.take-at.result c.take-at.new.nodes.free d name p c.args.bit
    c.read-node.ensures (ap (λ x. half_place x c.args.bit) c.read-node.ensures ∙ gone) l t (c.take-at.ensures.gives name n (p ++ (c.args.bit ∷ [])) h) c.leaf.ensures c.join_half-new.ensures (c.put.ensures.cells ∙ ap (λ x. slice_set x c.args.i c.join_half-new.result) c.fill.ensures.cells))

pub returns-clause-kept : goal.returns-clause-kept
returns-clause-kept c = λ j l. bests_same c.fill.new.nodes c.put.new.nodes c.put.ensures.kept j ∙ (c.fill.ensures.kept j (omega (arith, l, c.put.ensures.len, c.fill.ensures.len)) ∙ put_same (best_in c.take-at.new.nodes) (best_in c.args.nodes.now) c.take-at.result j c.args.best c.take-at.ensures.kept)
