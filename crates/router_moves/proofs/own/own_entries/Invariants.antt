use Rattle.std.proofs.Common.{◌≡◌, ◌++◌, map, drop}
use Rattle.fib_addr.specs.Views.{entry_as}
use Rattle.moves_check.specs.Views.{AreEntriesOf}
use Rattle.moves_model.specs.Both.{own_entries}
use Rattle.router_moves.proofs.own.own_entries.Given as goal

abbrev pub invariant-loop-entry : goal.invariant-loop-entry
invariant-loop-entry l =
    (own_entries l.family (map entry_as l.entries) ≡ map entry_as l.own.items ++ own_entries l.family (map entry_as (drop l.entry-index l.entries)))
    × AreEntriesOf l.family (map entry_as l.own.items)
