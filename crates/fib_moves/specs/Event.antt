-- What is asked of the table before an event.
use Rattle.std.specs.Prelude.{ℕ, List, Bool}
use Rattle.table_model.specs.Table.{Table, Alike}
use Rattle.moves_model.specs.Way.{SameBut}

-- T answers as the routes did before an event that changed them at p alone, to S
pub record AlikeBefore (w : ℕ) (p : List Bool) (S T : Table) : Type 0 where
  pub before : Table
  pub alike : Alike w before T
  pub same : SameBut p before S
