-- What clauses see of a list of rows.
use Rattle.std.specs.Prelude.{◌≡◌, ◌<◌, ℕ, List, Some, slice_get}
use Rattle.std.specs.declared.cmp.Ordering.TheVariants.{Less}
use Rattle.fib_addr.specs.Order.{code_cmp}
use Rattle.adj_rib_in.specs.declared.rows.Row.{Row}

pub record RowItems : Type 0 where
  pub items : List Row

-- rows stand in strict order of their prefixes
abbrev pub AreOrdered : List Row → Type 0
AreOrdered rows = (i j : ℕ) (r t : Row) → i < j → slice_get rows i ≡ Some r → slice_get rows j ≡ Some t → code_cmp r.prefix t.prefix ≡ Less
