use Rattle.std.proofs.Common.{◌≡◌, ◌++◌, map, take}
use Rattle.fib_addr.specs.Views.{entry_as}
use Rattle.ortc.specs.Packed.{packed_entry_as}
use Rattle.ortc.proofs.packed_table.pack_all.Given as goal

-- the entries so far are packed
abbrev pub invariant-loop-entry : goal.invariant-loop-entry
invariant-loop-entry l = map packed_entry_as l.packed.items ≡ map packed_entry_as l.fn.packed.items ++ map entry_as (take l.entry-index l.entries)
