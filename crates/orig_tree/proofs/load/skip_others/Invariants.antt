use Rattle.std.proofs.Common.{◌≡◌, length}
use Rattle.std.specs.List.{AllByRecursion}
use Rattle.std.specs.Map.{keys_of}
use Rattle.table_model.specs.Address.{IsPrefix}
use Rattle.orig_tree.specs.Merged.{own_of}
use Rattle.orig_tree.proofs.load.skip_others.Given as goal

abbrev pub invariant-loop-first : goal.invariant-loop-first
invariant-loop-first g l = record {
  own : own_of l.family (g.S.EntrySource.left l.entries) ≡ own_of l.family (g.S.EntrySource.left l.fn.entries);
  prefixes : AllByRecursion IsPrefix (keys_of (g.S.EntrySource.left l.fn.entries)) → AllByRecursion IsPrefix (keys_of (g.S.EntrySource.left l.entries));
}

abbrev pub decreases-loop-first : goal.decreases-loop-first
decreases-loop-first g l = length (g.S.EntrySource.left l.entries)
