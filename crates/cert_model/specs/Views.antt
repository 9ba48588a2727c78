-- What a clause sees of rows.
use Rattle.cert_model.specs.Rows.{CertRow, leaf_row, join_row, bound_row}
use Rattle.fib_addr.specs.Views.{prefix_as}
use Rattle.cert_model.specs.declared.row.Row as code_row
use Rattle.cert_model.specs.declared.row.Row.TheVariants as row

abbrev pub row_as : code_row.Row → CertRow
row_as (row.Leaf p h) = leaf_row (prefix_as p) h.0
row_as (row.Join p k) = join_row (prefix_as p) k
row_as (row.Bound f n) = bound_row f n
