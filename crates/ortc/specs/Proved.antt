-- What the rows of one family prove.
use Rattle.std.specs.Prelude.{◌≡◌, ℕ, List, [], ◌∷◌, ◌++◌, length}
use Rattle.table_model.specs.declared.family.Family.{Family}
use Rattle.table_model.specs.Width.{width}
use Rattle.table_model.specs.Table.{Alike}
use Rattle.table_model.specs.Entries.{Entries, of_family}
use Rattle.cert_model.specs.Rows.{CertRow, bound_row}
use Rattle.cert_model.specs.Right.{HaveBound}

-- The rows prove T least for the routes R in the family: both answer alike, the rows are right for R and end with its bound,
-- and T has as many entries of the family as the bound.
abbrev pub ProveLeast : Family → Entries → Entries → List CertRow → Type 0
ProveLeast f R T rows =
    Alike (width f) (of_family f R) (of_family f T)
    × (regions : List CertRow) × (n : ℕ) × (rows ≡ regions ++ bound_row f n ∷ []) × HaveBound R f regions n × (length (of_family f T) ≡ n)
