-- What a clause sees of what two texts say.
use Rattle.std.specs.Prelude.{map}
use Rattle.fib_addr.specs.Hops.{Hops}
use Rattle.fib_addr.specs.Views.{entry_as}
use Rattle.router_moves.specs.Due.{RouterTables}
use Rattle.router_moves.specs.declared.asked.Asked.{Asked as AskedTexts}

-- the table and the routes that were read, and the hops after them
abbrev pub tables_as : AskedTexts → Hops → RouterTables
tables_as a hops = record { table = map entry_as a.table.items; routes = map entry_as a.routes.items; hops = hops.list }
