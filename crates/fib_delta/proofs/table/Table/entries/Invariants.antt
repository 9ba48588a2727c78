use Rattle.std.specs.Prelude.{◌≡◌, ◌++◌, map}
use Rattle.fib_addr.specs.Views.{entry_as}
use Rattle.fib_delta.specs.Views.{held_as}
use Rattle.fib_delta.proofs.table.Table.entries.Given as goal

abbrev pub invariant-loop-prefix : goal.invariant-loop-prefix
invariant-loop-prefix l = record {
  next : (goal.iterator-loop-prefix).can_next l.prefix-iterator;
  finite : (goal.iterator-loop-prefix).is_finite l.prefix-iterator;
  entries : map entry_as l.entries.items ++ held_as l.prefix-iterator ≡ l.self;
}
