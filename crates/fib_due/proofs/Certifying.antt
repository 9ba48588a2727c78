-- The certificate of the least table.
use Rattle.std.proofs.Common.{◌≡◌, ◌≢◌, List, [], ◌∷◌, ◌++◌, Bool, true, false, refl, sym, ap, subst}
use Rattle.std.specs.List.{AllByRecursion, IsDistinct}
use Rattle.std.specs.List.Sorted.{IsStrictlySortedBy}
use Rattle.std.specs.Map.{keys_of}
use Rattle.table_model.specs.Address.{Prefix, same_prefix}
use Rattle.table_model.specs.Order.{prefix_cmp}
use Rattle.table_model.specs.Width.{width}
use Rattle.table_model.specs.declared.family.Family.{Family}
use Rattle.table_model.specs.declared.family.Family.TheVariants.{V4, V6}
use Rattle.table_model.proofs.SamePrefix.{same_prefix_is}
use Rattle.table_model.specs.Table.{Entry as Row, Table, Distinct}
use Rattle.table_model.specs.Entries.{Entries, of_family, of_table}
use Rattle.table_model.proofs.Once.{once_sorted}
use Rattle.table_model.specs.Both.{LeastInBoth, aggregate_in_both}
use Rattle.table_model.specs.Least.{Least, aggregate}
use Rattle.table_model.proofs.Both.{own_table}
use Rattle.table_model.proofs.Laws.{fresh_law}
use Rattle.cert_model.specs.Rows.{certificate_of}
use Rattle.cert_model.specs.Right.{IsCertificate}
use Rattle.cert_model.proofs.Postorder.{completeness_law}

-- ---- the least table

pub least_in_both : (R old : Entries) → LeastInBoth R (aggregate_in_both R old)
least_in_both R old f =
    subst (λ (T : Table). Least (width f) (of_family f R) T) (sym (own_table f (λ g. aggregate (width g) (of_family g R) [] 0 (of_family g old)))) (fresh_law (width f) (of_family f R) (of_family f old)).1

-- ---- no prefix stands twice

other : (f : Family) (p q : List Bool) → p ≢ q → same_prefix (record { family = f; bits = p }) (record { family = f; bits = q }) ≡ false
other f p q n = by_test (same_prefix (record { family = f; bits = p }) (record { family = f; bits = q })) refl
  where
    by_test : (b : Bool) → same_prefix (record { family = f; bits = p }) (record { family = f; bits = q }) ≡ b → same_prefix (record { family = f; bits = p }) (record { family = f; bits = q }) ≡ false
    by_test false e = e
    by_test true e = absurd (n (ap (λ (r : Prefix). r.bits) (same_prefix_is _ _ e)))

others : (f : Family) (e : Row) (L : Table) → AllByRecursion (λ x. e.prefix ≢ x.prefix) L → AllByRecursion (λ q. same_prefix (record { family = f; bits = e.prefix }) q ≡ false) (keys_of (of_table f L))
others f e [] a = tt
others f e (x ∷ L) a = (other f e.prefix x.prefix a.0, others f e L a.1)

once_six : (M : Table) → Distinct M → IsDistinct same_prefix (keys_of (of_table V6 M))
unfolding IsDistinct
once_six [] d = tt
once_six (e ∷ M) d = (others V6 e M d.0, once_six M d.1)

apart : (e : Row) (M : Table) → AllByRecursion (λ q. same_prefix (record { family = V4; bits = e.prefix }) q ≡ false) (keys_of (of_table V6 M))
apart e [] = tt
apart e (x ∷ M) = (refl, apart e M)

after_four : (e : Row) (L M : Table) → AllByRecursion (λ x. e.prefix ≢ x.prefix) L → AllByRecursion (λ q. same_prefix (record { family = V4; bits = e.prefix }) q ≡ false) (keys_of (of_table V4 L ++ of_table V6 M))
after_four e [] M a = apart e M
after_four e (x ∷ L) M a = (other V4 e.prefix x.prefix a.0, after_four e L M a.1)

-- in two tables, one of each family
once_both : (L M : Table) → Distinct L → Distinct M → IsDistinct same_prefix (keys_of (of_table V4 L ++ of_table V6 M))
unfolding IsDistinct
once_both [] M d k = once_six M k
once_both (e ∷ L) M d k = (after_four e L M d.0, once_both L M d.1 k)

pub certified_least : (R old : Entries) → IsStrictlySortedBy prefix_cmp (keys_of R) → IsCertificate R (aggregate_in_both R old) (certificate_of R)
certified_least R old s =
    let once = once_both (aggregate (width V4) (of_family V4 R) [] 0 (of_family V4 old)) (aggregate (width V6) (of_family V6 R) [] 0 (of_family V6 old)) (fresh_law (width V4) (of_family V4 R) (of_family V4 old)).0.0 (fresh_law (width V6) (of_family V6 R) (of_family V6 old)).0.0 in
    completeness_law R (aggregate_in_both R old) (once_sorted (keys_of R) s) once (least_in_both R old)
