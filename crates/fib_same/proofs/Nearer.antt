-- Of two texts that differ, the one at the lesser address.
use Rattle.std.proofs.Common.{◌≡◌, ℕ, Some, sym, ap, ◌∙◌, ◌⊎◌, inl, inr, mod-eq_of_lt}
use Rattle.std.specs.Ordering.{match_ordering, nat_cmp, ordering_then}
use Rattle.std.specs.declared.cmp.Ordering.{Ordering}
use Rattle.std.specs.declared.cmp.Ordering.TheVariants.{Equal, Greater}
use Rattle.table_model.specs.Bits.{value_of, bits_of}
use Rattle.table_model.specs.Width.{width}
use Rattle.table_model.specs.Derived.{code_family_cmp}
use Rattle.table_model.specs.Order.{family_cmp}
use Rattle.table_model.proofs.BitLaws.{value-bits_of}
use Rattle.table_model.proofs.Families.{family_order}
use Rattle.cert_model.specs.Verdict.{address_cmp}
use Rattle.fib_addr.specs.declared.addr.Addr.{Addr}
use Rattle.fib_addr.specs.Views.{addr_as}
use Rattle.fib_same.specs.Texts.{lesser}
use Rattle.fib_same.specs.declared.compare.Found.{Found}
use Rattle.fib_same.specs.Views.{text_difference_as}

value_is : (a : Addr) → value_of (bits_of (width a.family) a.bits) ≡ a.bits
value_is a = value-bits_of (width a.family) a.bits ∙ mod-eq_of_lt a.below

-- the order of addresses is that of their numbers
order_is : (a b : Addr) → address_cmp (addr_as a) (addr_as b) ≡ ordering_then (family_cmp a.family b.family) (nat_cmp a.bits b.bits)
order_is a b =
    ap (λ (n : ℕ). ordering_then (family_cmp a.family b.family) (nat_cmp n (value_of (bits_of (width b.family) b.bits)))) (value_is a)
    ∙ ap (λ (n : ℕ). ordering_then (family_cmp a.family b.family) (nat_cmp a.bits n)) (value_is b)

pub lesser_is : (x y : Found) (o : Ordering) → ordering_then (code_family_cmp y.differ.addr.family x.differ.addr.family) (nat_cmp y.differ.addr.bits x.differ.addr.bits) ≡ o
    → lesser (Some (text_difference_as x)) (Some (text_difference_as y)) ≡ match_ordering o (Some (text_difference_as y)) (Some (text_difference_as x)) (Some (text_difference_as x))
lesser_is x y o e =
    let a = y.differ.addr in
    let b = x.differ.addr in
    let code = ap (λ p. ordering_then p (nat_cmp a.bits b.bits)) (family_order a.family b.family) in
    ap (λ p. match_ordering p (Some (text_difference_as y)) (Some (text_difference_as x)) (Some (text_difference_as x))) (order_is a b ∙ (sym code ∙ e))

-- the first stays
pub first_is : (x y : Found) (o : Ordering) → ordering_then (code_family_cmp y.differ.addr.family x.differ.addr.family) (nat_cmp y.differ.addr.bits x.differ.addr.bits) ≡ o → (o ≡ Equal) ⊎ (o ≡ Greater)
    → lesser (Some (text_difference_as x)) (Some (text_difference_as y)) ≡ Some (text_difference_as x)
first_is x y o e (inl equal) = lesser_is x y Equal (e ∙ equal)
first_is x y o e (inr greater) = lesser_is x y Greater (e ∙ greater)
