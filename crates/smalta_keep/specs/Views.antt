-- What a clause sees of this crate's values.
use Rattle.std.specs.Prelude.{List, Option, Some, None, map, option_map}
use Rattle.table_model.specs.Address.{Prefix}
use Rattle.table_model.specs.Entries.{Entries}
use Rattle.table_model.specs.Changes.{Change}
use Rattle.kept_model.specs.Patched.{with_route}
use Rattle.fib_addr.specs.Views.{prefix_as}
use Rattle.fib_addr.specs.declared.prefix.Prefix as code_prefix
use Rattle.fib_addr.specs.declared.entry.Hop as code_hop
use Rattle.fib_delta.specs.Views.{change_as}
use Rattle.smalta_keep.specs.Routes.{undone_in}
use Rattle.smalta_keep.specs.declared.repair.Moved.{Moved}
use Rattle.smalta_keep.specs.declared.repair.Repair.{Repair}

-- the changes of a repair
abbrev pub repair_as : Moved → List Change
repair_as m = map change_as m.repair.items

-- the changes of a snapshot
abbrev pub snapshot_as : Moved → List Change
snapshot_as m = map change_as m.snapshot.items

-- what a plan says
abbrev pub moved_of : Repair → Moved
moved_of r = r.moved

-- the routes with what a plan's prefix had before
abbrev pub undone_by : Repair → Entries → Entries
undone_by r R = undone_in r.former R

-- the routes with a plan's route, if it has one
abbrev pub with_planned : Option (code_prefix.Prefix × code_hop.Hop) → Entries → Entries
with_planned None R = R
with_planned (Some r) R = with_route (prefix_as r.0) r.1.0 R

-- the prefix of a plan's route
abbrev pub place_in : Option (code_prefix.Prefix × code_hop.Hop) → Option Prefix
place_in route = option_map (λ r. prefix_as r.0) route
