use Rattle.std.proofs.Common.{◌≡◌, map, take, length}
use Rattle.table_model.specs.Entries.{of_family}
use Rattle.fib_addr.specs.Views.{entry_as}
use Rattle.cert_check.proofs.verdict.count_of.Given as goal

abbrev pub invariant-loop-entry : goal.invariant-loop-entry
invariant-loop-entry l = l.count ≡ length (of_family l.family (map entry_as (take l.entry-index l.entries)))
