-- Prefixes one after another.
use Rattle.std.specs.Prelude.{◌≡◌, Option, None, Some}
use Rattle.std.specs.declared.cmp.Ordering.TheVariants.{Less}
use Rattle.table_model.specs.Order.{prefix_cmp}
use Rattle.fib_addr.specs.declared.prefix.Prefix as code
use Rattle.fib_addr.specs.Views.{prefix_as}

-- the prefix is after the last one, if there is one
abbrev pub ComesAfter : code.Prefix → Option code.Prefix → Type 0
ComesAfter p None = Unit {0}
ComesAfter p (Some last) = prefix_cmp (prefix_as last) (prefix_as p) ≡ Less
