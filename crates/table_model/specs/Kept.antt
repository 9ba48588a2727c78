-- A table that is kept while the routes change.
use Rattle.std.specs.Prelude.{ℕ, ◌≤◌, List, [], Bool, length}
use Rattle.table_model.specs.Table.{Table}
use Rattle.table_model.specs.Regions.{SameOutside}
use Rattle.table_model.specs.Least.{aggregate, patch}

-- T is kept for the routes R: a snapshot, or repaired within p if the routes changed within p alone
pub data Kept (w : ℕ) : Table → Table → Type 0 where
  snapshot : {R : Table} (old : Table) → Kept w R (aggregate w R [] 0 old)
  repair : {R S T : Table} (p : List Bool) → length p ≤ w → SameOutside p R S → Kept w R T → Kept w S (patch w T S p)
