-- What clauses see of rows.
use Rattle.std.specs.Prelude.{ℕ}
use Rattle.fib_addr.specs.declared.prefix.Prefix.{Prefix}

pub record RowKey : Type 0 where
  pub prefix : Prefix
  pub off : ℕ
