-- How a row of a certificate follows from the row before.
use Rattle.std.specs.Prelude.{ℕ, ◌-◌, true, cond, length, nat_lt}
use Rattle.table_model.specs.Width.{width}
use Rattle.table_model.specs.Address.{Prefix, first_bits}
use Rattle.table_model.specs.Halves.{half_at}
use Rattle.fib_addr.specs.Text.{first_address}
use Rattle.cert_model.specs.Rows.{CertRow, leaf_row, join_row, bound_row, whole_prefix}

-- the number, or the most if it is more
abbrev pub cap : ℕ → ℕ → ℕ
cap n most = cond (nat_lt most n) most n

-- the prefix of the region that has this one's region as a half; that of all addresses stays
abbrev pub region_above : Prefix → Prefix
region_above p = first_bits (length p.bits - 1) (first_address p)

-- the prefix of n bits at the first address of the upper half of the region above
abbrev pub next_leaf : Prefix → ℕ → Prefix
next_leaf p len = first_bits (cap len (width p.family)) (first_address (half_at true (region_above p)))

-- the prefix of a row, which of a bound is that of all addresses
abbrev pub row_prefix : CertRow → Prefix
row_prefix (leaf_row p h) = p
row_prefix (join_row p k) = p
row_prefix (bound_row f n) = whole_prefix f
