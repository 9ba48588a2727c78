-- In prefixes that rise none stands twice.
use Rattle.std.proofs.Common.{◌≡◌, List, [], ◌∷◌, Bool, true, false, refl, sym, ap, ◌∙◌}
use Rattle.std.specs.List.{AllByRecursion, IsDistinct}
use Rattle.std.specs.List.Sorted.{IsStrictlySortedBy}
use Rattle.std.specs.Map.{keys_of}
use Rattle.std.specs.Ordering.{ordering_reverse}
use Rattle.std.specs.declared.cmp.Ordering.TheVariants.{Less, Greater}
use Rattle.table_model.specs.Address.{Prefix, same_prefix}
use Rattle.table_model.specs.Order.{prefix_cmp}
use Rattle.table_model.proofs.Ordered.{prefix_total}
use Rattle.table_model.proofs.SamePrefix.{same_prefix_is}
use Rattle.table_model.specs.Entries.{Entries, in_order}
use Rattle.table_model.proofs.Sums.{in_order_sorted}

below : (p q : Prefix) → prefix_cmp p q ≡ Less → same_prefix p q ≡ false
below p q l = by_test (same_prefix p q) refl
  where
    by_test : (b : Bool) → same_prefix p q ≡ b → same_prefix p q ≡ false
    by_test false e = e
    by_test true e =
        let t : prefix_cmp p p ≡ Less = ap (prefix_cmp p) (same_prefix_is p q e) ∙ l in
        let turned : Less ≡ Greater = sym t ∙ (prefix_total.antisymm p p ∙ ap ordering_reverse t) in
        absurd cc

all_below : (p : Prefix) (ps : List Prefix) → AllByRecursion (λ q. prefix_cmp p q ≡ Less) ps → AllByRecursion (λ q. same_prefix p q ≡ false) ps
all_below p [] a = tt
all_below p (q ∷ ps) a = (below p q a.0, all_below p ps a.1)

pub once_sorted : (ps : List Prefix) → IsStrictlySortedBy prefix_cmp ps → IsDistinct same_prefix ps
unfolding IsStrictlySortedBy IsDistinct
once_sorted [] s = tt
once_sorted (p ∷ ps) s = (all_below p ps s.0, once_sorted ps s.1)

-- entries that are put in order have distinct prefixes
pub once_in_order : (L : Entries) → IsDistinct same_prefix (keys_of (in_order L))
once_in_order L = once_sorted (keys_of (in_order L)) (in_order_sorted L)
