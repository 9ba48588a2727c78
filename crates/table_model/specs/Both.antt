-- Least tables of both families.
use Rattle.std.specs.Prelude.{[], ◌++◌}
use Rattle.table_model.specs.Width.{width}
use Rattle.table_model.specs.declared.family.Family.{Family}
use Rattle.table_model.specs.declared.family.Family.TheVariants.{V4, V6}
use Rattle.table_model.specs.Entries.{Entries, of_family, of_table}
use Rattle.table_model.specs.Least.{Least, IsAggregate, aggregate}

-- in each family the entries T are a least table for the routes R
abbrev pub LeastInBoth : Entries → Entries → Type 0
LeastInBoth R T = (f : Family) → Least (width f) (of_family f R) (of_family f T)

-- in each family the entries T are the aggregate of the whole space for the routes R, with old as the old table
abbrev pub AggregateInBoth : Entries → Entries → Entries → Type 0
AggregateInBoth R old T = (f : Family) → IsAggregate (width f) (of_family f R) [] 0 (of_family f old) (of_family f T)

-- ---- computed by the sets of the regions

-- the aggregate of a family's whole space, with old as the old table
abbrev pub aggregate_in : Family → Entries → Entries → Entries
aggregate_in f R old = of_table f (aggregate (width f) (of_family f R) [] 0 (of_family f old))

-- the aggregates of both families, that of IPv4 first
abbrev pub aggregate_in_both : Entries → Entries → Entries
aggregate_in_both R old = aggregate_in V4 R old ++ aggregate_in V6 R old
