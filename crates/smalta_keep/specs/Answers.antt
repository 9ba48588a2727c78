-- What a kept table answers, and how few entries it has, in its family.
use Rattle.std.specs.Prelude.{◌≤◌, Bool, true, false, length, Option, Some, None}
use Rattle.table_model.specs.Address.{Prefix}
use Rattle.table_model.specs.Width.{width}
use Rattle.table_model.specs.Table.{Alike}
use Rattle.table_model.specs.Entries.{Entries, of_family}
use Rattle.table_model.specs.Least.{Least}
use Rattle.table_model.specs.Regions.{SameOutside}
use Rattle.kept_model.specs.Between.{AreEntries}
use Rattle.fib_addr.specs.declared.prefix.Prefix as code_prefix
use Rattle.fib_addr.specs.declared.entry.Hop as code_hop
use Rattle.orig_tree.specs.Views.{Labels}

-- the table sends every address where the routes send it
abbrev pub IsAlike : Labels → Type 0
IsAlike kept = Alike (width kept.family) (of_family kept.family kept.routes) (of_family kept.family kept.entries)

-- that holds if the changes after a plan's route, if it has one, are to be the fewest
abbrev pub IsAlikeFor : Bool → Option (code_prefix.Prefix × code_hop.Hop) → Labels → Type 0
IsAlikeFor false route kept = Unit {0}
IsAlikeFor true None kept = Unit {0}
IsAlikeFor true (Some r) kept = IsAlike kept

-- no table that does has fewer entries
abbrev pub IsLeast : Labels → Type 0
IsLeast kept = Least (width kept.family) (of_family kept.family kept.routes) (of_family kept.family kept.entries)

-- of the tables that do, and have T's entries outside p, none has fewer entries
abbrev pub IsFewestWithin : Prefix → Entries → Labels → Type 0
IsFewestWithin p T kept =
    (L : Entries) → AreEntries L → Alike (width kept.family) (of_family kept.family kept.routes) (of_family kept.family L)
    → SameOutside p.bits (of_family kept.family L) (of_family kept.family T)
    → length (of_family kept.family kept.entries) ≤ length (of_family kept.family L)
