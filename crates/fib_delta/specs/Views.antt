-- What a clause sees of changes and tables.
use Rattle.std.specs.Prelude.{List, map}
use Rattle.std.specs.List.{AllByRecursion}
use Rattle.std.specs.List.Sorted.{IsStrictlySortedBy}
use Rattle.std.specs.Map.{keys_of}
use Rattle.table_model.specs.Address.{IsPrefix}
use Rattle.table_model.specs.Order.{prefix_cmp}
use Rattle.table_model.specs.Entries.{Entries}
use Rattle.table_model.specs.Changes.{Change, Add, Replace, Remove}
use Rattle.fib_addr.specs.declared.prefix.Prefix as code_prefix
use Rattle.fib_addr.specs.declared.entry.Hop as code_hop
use Rattle.fib_addr.specs.Views.{prefix_as}
use Rattle.fib_delta.specs.declared.change.Change as code_change
use Rattle.fib_delta.specs.declared.change.Change.TheVariants as code

-- the change, with its prefix's bits and its hop's number
abbrev pub change_as : code_change.Change → Change
change_as (code.Add p h) = Add (prefix_as p) h.0
change_as (code.Replace p h) = Replace (prefix_as p) h.0
change_as (code.Remove p) = Remove (prefix_as p)

-- prefixes with their hops, as entries
abbrev pub held_as : List (code_prefix.Prefix × code_hop.Hop) → Entries
held_as held = map (λ e. (prefix_as e.0, e.1.0)) held

-- prefixes in their order, each once
abbrev pub InPlace : Entries → Type 0
InPlace L = AllByRecursion IsPrefix (keys_of L) × IsStrictlySortedBy prefix_cmp (keys_of L)
