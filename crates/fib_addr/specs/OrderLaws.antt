-- The code's order of prefixes is total, and doesn't tell them apart exactly if they are equal.
use Rattle.std.proofs.Common.{◌≡◌, Bool, true, false, refl, sym, ap, ◌∙◌}
use Rattle.std.specs.Prelude.{◌&&◌, ◌==◌}
use Rattle.std.specs.Cmp.{IsTotalOrder, unsigned_tied}
use Rattle.std.specs.Ordering.{is_eq, nat_cmp, ordering_then}
use Rattle.std.specs.declared.cmp.Ordering.{Ordering}
use Rattle.std.specs.declared.cmp.Ordering.TheVariants.{Less, Equal, Greater}
use Rattle.std.proofs.lemmas.Cmp.{nat_cmp_total, on_total, then_total}
use denote.Enum.Bare.{sameb}
use Rattle.table_model.specs.Width.{width}
use Rattle.table_model.specs.Order.{family_cmp}
use Rattle.table_model.specs.contracts.family.Family.{the_type}
use Rattle.table_model.specs.declared.family.Family.{Family}
use Rattle.table_model.specs.declared.family.Family.TheVariants.{V4, V6}
use Rattle.fib_addr.specs.Order.{code_cmp}
use Rattle.fib_addr.specs.declared.prefix.Prefix.{Prefix}
use Rattle.fib_addr.specs.contracts.prefix.PrefixPartialEq.TheImpl as prefix_eq

pub code_total : IsTotalOrder code_cmp
code_total = then_total (on_total (λ (p : Prefix). width p.family) nat_cmp_total) (then_total (on_total (λ (p : Prefix). p.bits) nat_cmp_total) (on_total (λ (p : Prefix). p.len) nat_cmp_total))

both_tie : (a b : Ordering) → is_eq (ordering_then a b) ≡ (is_eq a && is_eq b)
both_tie Less b = refl
both_tie Equal b = refl
both_tie Greater b = refl

same_families : (f g : Family) → sameb the_type f g ≡ is_eq (family_cmp f g)
same_families V4 V4 = refl
same_families V4 V6 = refl
same_families V6 V4 = refl
same_families V6 V6 = refl

turned : (a b c : Bool) → (a && (b && c)) ≡ (b && (a && c))
turned true b c = refl
turned false true c = refl
turned false false c = refl

pub tied : (p q : Prefix) → (prefix_eq.ghosts).eq p q ≡ is_eq (code_cmp p q)
tied p q =
    let f = family_cmp p.family q.family in
    let b = nat_cmp p.bits q.bits in
    let l = nat_cmp p.len q.len in
    turned (p.bits == q.bits) (sameb the_type p.family q.family) (p.len == q.len)
    ∙ (ap (λ t. t && ((p.bits == q.bits) && (p.len == q.len))) (same_families p.family q.family)
    ∙ (ap (λ t. is_eq f && (t && (p.len == q.len))) (sym (unsigned_tied p.bits q.bits))
    ∙ (ap (λ t. is_eq f && (is_eq b && t)) (sym (unsigned_tied p.len q.len)) ∙ sym (both_tie f (ordering_then b l) ∙ ap (λ t. is_eq f && t) (both_tie b l)))))
