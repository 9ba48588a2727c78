-- The prefix of a packed row is one.
use Rattle.std.proofs.Common.{◌≡◌, ℕ, ◌≤◌, length, arith}
use Rattle.table_model.specs.Width.{width}
use Rattle.table_model.specs.Address.{Prefix, IsPrefix}
use Rattle.fib_addr.proofs.Parts.{length_prefix}
use Rattle.cert_model.specs.Verdict.{RowFits}
use Rattle.cert_model.specs.declared.kind.RowKind.{RowKind}
use Rattle.cert_model.specs.declared.kind.RowKind.TheVariants as kind
use Rattle.cert_model.specs.declared.packed.PackedRow.{PackedRow}
use Rattle.cert_model.specs.PackedViews.{packed_as, packed_prefix, row_of_kind}

kind_fits : (k : RowKind) (p : Prefix) (n : ℕ) → IsPrefix p → RowFits (row_of_kind k p n)
kind_fits kind.Leaf p n short = short
kind_fits kind.Join p n short = short
kind_fits kind.Bound p n short = tt

pub packed_fits : (r : PackedRow) → RowFits (packed_as r)
packed_fits r =
    let e : length (packed_prefix r).bits ≡ r.len = length_prefix (width r.family) r.len r.bits r.fits in
    let f : r.len ≤ width r.family = r.fits in
    kind_fits r.kind (packed_prefix r) r.number (omega (arith, e, f))
