-- What a shortest list of changes is, and one that rows prove shortest. R are the routes and T is the old table.
use Rattle.std.specs.Prelude.{◌≡◌, ℕ, ◌≤◌, List, [], ◌∷◌, ◌++◌, length, Some}
use Rattle.std.specs.List.{IsDistinct}
use Rattle.std.specs.Map.{keys_of}
use Rattle.table_model.specs.Width.{width}
use Rattle.table_model.specs.Address.{same_prefix}
use Rattle.table_model.specs.declared.family.Family.{Family}
use Rattle.table_model.specs.Table.{Table, Alike}
use Rattle.table_model.specs.Entries.{Entries, in_order, of_family}
use Rattle.table_model.specs.Changes.{Change, after_changes}
use Rattle.cert_model.specs.Rows.{CertRow, bound_row}
use Rattle.moves_model.specs.Dist.{distance}
use Rattle.moves_model.specs.Demands.{HaveChangeBound}

-- The changes are possible one after another, and make of T a table that answers as R in the family. No table that does differs
-- from T at fewer prefixes than there are changes, whatever its prefixes and its hops.
pub record AreShortest (f : Family) (R T : Entries) (changes : List Change) : Type 0 where
  pub after : Entries
  pub makes : after_changes changes (in_order T) ≡ Some after
  pub alike : Alike (width f) (of_family f R) (of_family f after)
  pub fewest : (U : Table) → Alike (width f) (of_family f R) U → length changes ≤ distance (of_family f T) U

-- The changes are possible and make such a table, and the rows prove that they are shortest: they are right rows, and there are
-- no more changes than their bound. Neither T nor R has a prefix twice.
pub record AreProvedShortest (f : Family) (R T : Entries) (changes : List Change) (rows : List CertRow) : Type 0 where
  pub old_once : IsDistinct same_prefix (keys_of T)
  pub routes_once : IsDistinct same_prefix (keys_of R)
  pub after : Entries
  pub makes : after_changes changes (in_order T) ≡ Some after
  pub alike : Alike (width f) (of_family f R) (of_family f after)
  pub regions : List CertRow
  pub bound : ℕ
  pub parts : rows ≡ regions ++ (bound_row f bound ∷ [])
  pub right : HaveChangeBound R T f regions bound
  pub few : length changes ≤ bound
