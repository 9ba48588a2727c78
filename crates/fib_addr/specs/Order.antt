-- The orders that the code gives prefixes.
use Rattle.std.specs.Ordering.{nat_cmp, on, then_cmp}
use Rattle.std.specs.declared.cmp.Ordering.{Ordering}
use Rattle.table_model.specs.Order.{family_cmp}
use Rattle.fib_addr.specs.declared.prefix.Prefix.{Prefix}

-- what `cmp` answers; by the order law it is the order of prefixes
abbrev pub code_cmp : Prefix → Prefix → Ordering
code_cmp = then_cmp (on (λ (p : Prefix). p.family) family_cmp) (then_cmp (on (λ (p : Prefix). p.bits) nat_cmp) (on (λ (p : Prefix). p.len) nat_cmp))
