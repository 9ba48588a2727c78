-- Prefixes of the code that are equal stand for one prefix.
use Rattle.std.proofs.Common.{◌≡◌, Bool, sym, ap, subst, ◌≤◌, ◌∙◌}
use Rattle.std.specs.Ordering.{is_eq}
use Rattle.table_model.specs.Width.{width}
use Rattle.table_model.specs.Address.{IsPrefix, same_prefix}
use Rattle.route_model.proofs.Keyed.{key_test}
use Rattle.route_model.proofs.Places.{prefix_key}
use Rattle.fib_addr.specs.Views.{prefix_as}
use Rattle.fib_addr.specs.declared.prefix.Prefix as code
use Rattle.fib_addr.specs.contracts.prefix.PrefixPartialEq.TheImpl as prefix_eq
use Rattle.fib_addr.specs.OrderLaws.{tied}
use Rattle.fib_addr.proofs.Ordering.{cmp_is}
use Rattle.fib_addr.proofs.Parts.{length_prefix}

pub is_prefix : (p : code.Prefix) → IsPrefix (prefix_as p)
is_prefix p = subst (λ n. n ≤ width p.family) (sym (length_prefix (width p.family) p.len p.bits p.fits)) p.fits

-- whether two prefixes of the code are equal
abbrev prefix_test : code.Prefix → code.Prefix → Bool
prefix_test = (prefix_eq.ghosts).eq

-- the derived test of prefixes is the test of what they stand for
pub test_is : (p q : code.Prefix) → prefix_test p q ≡ same_prefix (prefix_as p) (prefix_as q)
test_is p q = tied p q ∙ (ap is_eq (cmp_is p q) ∙ key_test prefix_key (prefix_as p) (prefix_as q) (is_prefix p) (is_prefix q))
