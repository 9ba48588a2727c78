-- What a row that follows from the row before says.
use Rattle.std.specs.Prelude.{ℕ, Option, Some, None}
use Rattle.table_model.specs.Address.{Prefix}
use Rattle.cert_model.specs.Rows.{CertRow, leaf_row, join_row}
use Rattle.cert_rows.specs.Follow.{next_leaf, region_above}
use Rattle.cert_rows.specs.declared.near.Near.{Near}
use Rattle.cert_rows.specs.declared.near.NearKind.{NearKind}
use Rattle.cert_rows.specs.declared.near.NearKind.TheVariants as kind

-- the row of this kind that follows one of this prefix
abbrev pub row_by : NearKind → ℕ → ℕ → Prefix → Option CertRow
row_by kind.Leaf len n p = Some (leaf_row (next_leaf p len) n)
row_by kind.Join len n p = Some (join_row (region_above p) n)
row_by kind.Whole len n p = None

-- the row, which follows one of this prefix; none if it is kept whole
abbrev pub near_row : Near → Prefix → Option CertRow
near_row near p = row_by near.kind near.len near.number p
