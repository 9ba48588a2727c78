use Rattle.std.proofs.Common.{◌≡◌, ◌++◌, [], drop, map}
use Rattle.kept_model.specs.Between.{between}
use Rattle.fib_addr.specs.Views.{entry_as}
use Rattle.fib_delta.specs.Views.{change_as}
use Rattle.fib_delta.proofs.changes.push_removed.Given as goal

abbrev pub invariant-loop-entry : goal.invariant-loop-entry
invariant-loop-entry l = map change_as l.out.items ++ between (map entry_as (drop l.entry-index l.old)) [] ≡ map change_as l.fn.out.items ++ between (map entry_as l.old) []
