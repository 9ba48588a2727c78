use Rattle.std.proofs.Common.{length}
use Rattle.orig_tree.specs.Arena.{cells_of}
use Rattle.orig_tree.specs.Bests.{best_in}
use Rattle.orig_tree.specs.Merged.{Lays}
use Rattle.orig_tree.specs.declared.node.Label.TheVariants.{Route}
use Rattle.orig_tree.proofs.load.insert_rest.Given as goal

abbrev pub invariant-loop-first : goal.invariant-loop-first
invariant-loop-first g l = record {
  lays : Lays l.family Route (cells_of l.fn.nodes) (cells_of l.nodes) l.nodes.free (best_in l.fn.nodes) (best_in l.nodes) (g.S.EntrySource.left l.fn.routes) (g.S.EntrySource.left l.routes);
}

abbrev pub decreases-loop-first : goal.decreases-loop-first
decreases-loop-first g l = length (g.S.EntrySource.left l.routes)
