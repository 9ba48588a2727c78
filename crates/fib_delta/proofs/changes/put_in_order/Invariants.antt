use Rattle.std.proofs.Common.{◌≡◌, take, map}
use Rattle.table_model.specs.Entries.{in_order}
use Rattle.fib_addr.specs.Views.{entry_as}
use Rattle.fib_delta.proofs.changes.put_in_order.Given as goal

abbrev pub invariant-loop-entry : goal.invariant-loop-entry
invariant-loop-entry l = l.table ≡ in_order (map entry_as (take l.entry-index l.entries))
