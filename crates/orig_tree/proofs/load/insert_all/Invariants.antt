use Rattle.std.specs.List.{AllByRecursion}
use Rattle.std.specs.Map.{keys_of}
use Rattle.std.proofs.Common.{length}
use Rattle.table_model.specs.Address.{IsPrefix}
use Rattle.orig_tree.specs.Arena.{cells_of}
use Rattle.orig_tree.specs.Bests.{best_in}
use Rattle.orig_tree.specs.Merged.{Lays}
use Rattle.orig_tree.proofs.load.insert_all.Given as goal

abbrev pub invariant-loop-first : goal.invariant-loop-first
invariant-loop-first g l = record {
  lays : Lays l.family l.label (cells_of l.fn.nodes) (cells_of l.nodes) l.nodes.free (best_in l.fn.nodes) (best_in l.nodes) (g.S.EntrySource.left l.fn.entries) (g.S.EntrySource.left l.entries);
  prefixes : AllByRecursion IsPrefix (keys_of (g.S.EntrySource.left l.entries));
}

abbrev pub decreases-loop-first : goal.decreases-loop-first
decreases-loop-first g l = length (g.S.EntrySource.left l.entries)
