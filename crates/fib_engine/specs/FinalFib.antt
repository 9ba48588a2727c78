-- What is seen of an engine once no more events come.
use Rattle.std.specs.Prelude.{true}
use Rattle.table_model.specs.declared.family.Family.TheVariants.{V4, V6}
use Rattle.table_model.specs.Entries.{Entries}
use Rattle.route_tries.specs.Sizes.{Sizes}
use Rattle.route_tries.specs.declared.needs.FamilyNeeds.{FamilyNeeds}
use Rattle.fib_engine.specs.Held.{IsKept, AreKeptNeeds}
use Rattle.fib_engine.specs.Tables.{Both, both_routes}

-- How large tries are, the routes, and the kept table of both families.
pub record Rests : Type 0 where
  pub sizes : Sizes
  pub routes : Entries
  pub table : Entries

-- The kept tables are of the routes that they hold, which tries of these sizes have room for.
pub record AreSettled (z : Sizes) (both : Both) (n : FamilyNeeds) : Type 0 where
  pub v4 : IsKept V4 true (both_routes both) both.v4
  pub v6 : IsKept V6 true (both_routes both) both.v6
  pub needs : AreKeptNeeds z (both_routes both) n
