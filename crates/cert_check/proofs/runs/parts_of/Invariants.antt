use Rattle.std.proofs.Common.{◌≡◌, map, take}
use Rattle.table_model.specs.Width.{width}
use Rattle.table_model.specs.Entries.{of_family}
use Rattle.fib_addr.specs.Views.{entry_as}
use Rattle.cert_check.specs.Runs.{parts_table}
use Rattle.cert_check.proofs.runs.parts_of.Given as goal

abbrev pub invariant-loop-entry : goal.invariant-loop-entry
invariant-loop-entry l = parts_table (width l.family) l.parts.items ≡ of_family l.family (map entry_as (take l.entry-index l.entries))
