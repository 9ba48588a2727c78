-- The code's order of prefixes is the model's.
use Rattle.std.proofs.Common.{◌≡◌, length, take, sym, ap, ◌∙◌, mod-eq_of_lt}
use Rattle.std.specs.Ordering.{nat_cmp, ordering_then}
use Rattle.table_model.specs.Bits.{bits_of, value_of}
use Rattle.table_model.specs.Width.{width}
use Rattle.table_model.specs.Order.{family_cmp, filled, prefix_cmp}
use Rattle.table_model.proofs.BitLaws.{value-bits_of}
use Rattle.fib_addr.specs.declared.prefix.Prefix.{Prefix}
use Rattle.fib_addr.specs.Views.{prefix_as}
use Rattle.fib_addr.specs.Order.{code_cmp}
use Rattle.fib_addr.proofs.Parts.{bits_filled, length_prefix}

filled_is : (p : Prefix) → filled (prefix_as p) ≡ p.bits
filled_is p = ap value_of (sym (bits_filled (width p.family) p.len p.bits p.fits p.cleared)) ∙ (value-bits_of (width p.family) p.bits ∙ mod-eq_of_lt p.below)

pub cmp_is : (p q : Prefix) → code_cmp p q ≡ prefix_cmp (prefix_as p) (prefix_as q)
cmp_is p q =
    ap (ordering_then (family_cmp p.family q.family))
    (ap (λ n. ordering_then (nat_cmp n q.bits) (nat_cmp p.len q.len)) (sym (filled_is p))
    ∙ (ap (λ n. ordering_then (nat_cmp (filled (prefix_as p)) n) (nat_cmp p.len q.len)) (sym (filled_is q))
    ∙ ap (ordering_then (nat_cmp (filled (prefix_as p)) (filled (prefix_as q))))
    (ap (λ n. nat_cmp n q.len) (sym (length_prefix (width p.family) p.len p.bits p.fits)) ∙ ap (nat_cmp (length (take p.len (bits_of (width p.family) p.bits)))) (sym (length_prefix (width q.family) q.len q.bits q.fits)))))
