-- The rows that are held.
use Rattle.std.specs.Prelude.{◌≡◌, List, [], ◌∷◌, Option, Some, None}
use Rattle.table_model.specs.declared.family.Family.TheVariants.{V4}
use Rattle.table_model.specs.Address.{Prefix}
use Rattle.cert_model.specs.Rows.{CertRow, whole_prefix}
use Rattle.cert_rows.specs.Follow.{row_prefix}
use Rattle.cert_rows.specs.Near.{near_row}
use Rattle.cert_rows.specs.declared.near.Near.{Near}

-- what the first row follows
abbrev pub first_prefix : Prefix
first_prefix = whole_prefix V4

-- the next row and the whole rows after it: the row that follows, or else the first of the whole rows
abbrev pub taken_row : Option CertRow → List CertRow → Option (CertRow × List CertRow)
taken_row (Some row) whole = Some (row, whole)
taken_row None [] = None
taken_row None (row ∷ whole) = Some (row, whole)

-- the row, and those that these say of it and of the whole rows after it
abbrev pub row_and : (Prefix → List CertRow → List CertRow) → Option (CertRow × List CertRow) → List CertRow
row_and rows None = []
row_and rows (Some next) = next.0 ∷ rows (row_prefix next.0) next.1

-- the rows that these are, after a row of this prefix; the whole ones among them come from a list
abbrev pub rows_held : List Near → Prefix → List CertRow → List CertRow
rows_held [] p whole = []
rows_held (near ∷ more) p whole = row_and (rows_held more) (taken_row (near_row near p) whole)

-- what is said of the prefix of the row and of the whole rows after it
abbrev pub SaidBehind : (Prefix → List CertRow → Type 0) → Option (CertRow × List CertRow) → Type 0
SaidBehind P None = ⊥
SaidBehind P (Some next) = P (row_prefix next.0) next.1

-- the last of the rows that these are has this prefix, and all whole rows are among them
abbrev pub RowsEndAt : Prefix → List Near → Prefix → List CertRow → Type 0
RowsEndAt last [] p whole = (whole ≡ []) × (p ≡ last)
RowsEndAt last (near ∷ more) p whole = SaidBehind (RowsEndAt last more) (taken_row (near_row near p) whole)

-- the first row was taken, if there was one
abbrev pub TakesRow : List CertRow → List CertRow → Option CertRow → Type 0
TakesRow old new None = (old ≡ []) × (new ≡ [])
TakesRow old new (Some row) = old ≡ row ∷ new
