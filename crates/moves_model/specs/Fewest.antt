-- What the number in the row of an event is.
use Rattle.std.specs.Prelude.{◌≡◌, ◌≤◌, ℕ, ◌+◌, List, ◌∷◌, ◌++◌, true, Some, length}
use Rattle.table_model.specs.Width.{width}
use Rattle.table_model.specs.Address.{Address, Prefix}
use Rattle.table_model.specs.Table.{Table, Alike}
use Rattle.table_model.specs.Entries.{of_family}
use Rattle.route_model.specs.Events.{Elem}
use Rattle.route_model.specs.Choice.{Candidates, after_elem, after_elems}
use Rattle.moves_model.specs.Dist.{distance}
use Rattle.kept_model.specs.Feed.{entries_of}
use Rattle.kept_model.specs.Kept.{changed_at}
use Rattle.moves_model.specs.Moved.{moved_by, table_of_run}

-- Of a run that asks for the fewest changes, with these elementary events after the load, the number of an event and that of its
-- changes:
pub record IsFewest (every : ℕ) (hops : List Address) (held : Candidates) (elems : List Elem) (row : ℕ × ℕ) : Type 0 where
  pub before : List Elem
  pub elem : Elem
  pub later : List Elem
  pub prefix : Prefix
  -- it is the number of this event, which changed the chosen hop at this prefix
  pub place : elems ≡ before ++ elem ∷ later
  pub number : row.0 ≡ length before + 1
  pub changed : changed_at (after_elems held before) elem ≡ Some prefix
  -- in the prefix's family the table before the event and the one after its first step differ at as many prefixes as the row says
  pub reached : let T = table_of_run true every hops held before in
      distance (of_family prefix.family T) (of_family prefix.family (moved_by true hops (after_elems held before) T elem)) ≡ row.1
  -- and no table that answers as the routes after the event differs from the one before at fewer
  pub fewest : (U : Table)
      → Alike (width prefix.family) (of_family prefix.family (entries_of hops (after_elem (after_elems held before) elem))) U
      → row.1 ≤ distance (of_family prefix.family (table_of_run true every hops held before)) U
