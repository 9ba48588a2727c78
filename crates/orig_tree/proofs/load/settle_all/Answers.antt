use Rattle.std.proofs.Common.{List, sym, subst}
use Rattle.orig_tree.specs.Arena.{cells_of}
use Rattle.orig_tree.specs.Bests.{best_in, KeepsBest}
use Rattle.orig_tree.specs.declared.node.Node.{Node}
use Rattle.orig_tree.proofs.Loading.{settled_whole}
use Rattle.orig_tree.proofs.load.settle_all.Goals as goal

pub returns-clause-best : goal.returns-clause-best
returns-clause-best c = subst (λ (cs : List Node). KeepsBest c.args.family cs (best_in c.settle.new.nodes)) (sym c.settle.ensures.cells)
    (settled_whole c.args.family c.width-depth.result c.args.nodes.now.free (cells_of c.args.nodes.now) (best_in c.args.nodes.now) (best_in c.settle.new.nodes) c.width-depth.ensures c.requires.arena c.in_ok-settle.ensures.best)
