-- What the tables of a tree are.
use Rattle.std.specs.Prelude.{ℕ, List, Bool}
use Rattle.table_model.specs.Width.{width}
use Rattle.table_model.specs.Entries.{Entries, of_family}
use Rattle.table_model.specs.Least.{IsAggregate}
use Rattle.orig_tree.specs.Views.{Labels}

-- T is the aggregate of the region p for the tree's routes under h, with the tree's entries as the old table
abbrev pub IsAggregateOf : Labels → List Bool → ℕ → Entries → Type 0
IsAggregateOf tree p h T =
    IsAggregate (width tree.family) (of_family tree.family tree.routes) p h (of_family tree.family tree.entries) (of_family tree.family T)
