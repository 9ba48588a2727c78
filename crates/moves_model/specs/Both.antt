-- What a router must change to forward as routes do, over both families: R are the routes, and T is the router's table.
use Rattle.std.specs.Prelude.{◌≡◌, ℕ, ◌+◌, ◌≤◌, List, ◌++◌, Bool, true, false, Some, length}
use Rattle.std.specs.List.{filter}
use Rattle.table_model.specs.Address.{same_family}
use Rattle.table_model.specs.declared.family.Family.{Family}
use Rattle.table_model.specs.declared.family.Family.TheVariants.{V4, V6}
use Rattle.table_model.specs.Entries.{AlikeInBoth, Entries, in_order, of_family}
use Rattle.table_model.specs.Changes.{Change, after_changes}
use Rattle.kept_model.specs.Between.{between}
use Rattle.kept_model.specs.Steady.{in_steady_order}
use Rattle.cert_model.specs.Rows.{CertRow}
use Rattle.moves_model.specs.Dist.{distance}
use Rattle.moves_model.specs.Rows.{near_in, near_rows}

-- the entries that are of the family, as they stand
abbrev pub own_entries : Family → Entries → Entries
own_entries f L = filter (λ e. same_family f e.0.family) L

-- and in the order of prefixes
abbrev pub family_table : Family → Entries → Entries
family_table f L = in_order (own_entries f L)

-- what makes of the router's table of the family the nearest one that answers as the routes
abbrev pub family_changes : Family → Entries → Entries → List Change
family_changes f R T = between (family_table f T) (near_in f (family_table f R) (family_table f T))

-- the rows that prove that no fewer changes would do
abbrev pub proving_rows : Family → Entries → Entries → List CertRow
proving_rows f R T = near_rows f (family_table f R) (family_table f T)

-- changes that stand in the order of prefixes, as the router gets them: as they stand, or in steady order
abbrev pub told_in : Bool → List Change → List Change
told_in false cs = cs
told_in true cs = in_steady_order cs

-- those of both families, IPv4's first
abbrev pub both_changes : Entries → Entries → List Change
both_changes R T = family_changes V4 R T ++ family_changes V6 R T

abbrev pub both_proving_rows : Entries → Entries → List CertRow
both_proving_rows R T = proving_rows V4 R T ++ proving_rows V6 R T

-- ---- shortest over both families

-- at how many prefixes of either family two tables differ
abbrev pub both_distance : Entries → Entries → ℕ
both_distance T U = distance (of_family V4 T) (of_family V4 U) + distance (of_family V6 T) (of_family V6 U)

-- The changes are possible one after another, and make of T a table that answers as R in both families. No table that does differs
-- from T at fewer prefixes than there are changes, whatever its prefixes and its hops.
pub record AreShortestInBoth (R T : Entries) (changes : List Change) : Type 0 where
  pub after : Entries
  pub makes : after_changes changes T ≡ Some after
  pub alike : AlikeInBoth R after
  pub fewest : (U : Entries) → AlikeInBoth R U → length changes ≤ both_distance T U
