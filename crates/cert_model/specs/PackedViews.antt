-- What a clause sees of packed rows.
use Rattle.std.specs.Prelude.{ℕ, take}
use Rattle.table_model.specs.Bits.{bits_of}
use Rattle.table_model.specs.Width.{width}
use Rattle.table_model.specs.Address.{Prefix}
use Rattle.cert_model.specs.Rows.{CertRow, leaf_row, join_row, bound_row}
use Rattle.cert_model.specs.declared.kind.RowKind.{RowKind}
use Rattle.cert_model.specs.declared.kind.RowKind.TheVariants as kind
use Rattle.cert_model.specs.declared.packed.PackedRow.{PackedRow}

-- the row of this kind, with this prefix and this number
abbrev pub row_of_kind : RowKind → Prefix → ℕ → CertRow
row_of_kind kind.Leaf p n = leaf_row p n
row_of_kind kind.Join p n = join_row p n
row_of_kind kind.Bound p n = bound_row p.family n

-- its prefix: the first len of its bits
abbrev pub packed_prefix : PackedRow → Prefix
packed_prefix r = record { family = r.family; bits = take r.len (bits_of (width r.family) r.bits) }

-- the row that it packs
abbrev pub packed_as : PackedRow → CertRow
packed_as r = row_of_kind r.kind (packed_prefix r) r.number
