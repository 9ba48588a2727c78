-- Tables of both families, in the order of prefixes.
use Rattle.std.proofs.Common.{inl, inr, ◌≡◌, ℕ, ◌≤◌, List, [], ◌∷◌, ◌++◌, Bool, true, false, cond, length, refl, sym, ap, ◌∙◌, subst, append-nil, arith}
use Rattle.std.proofs.lemmas.Bool.{cases_lt}
use Rattle.std.specs.List.{AllByRecursion}
use Rattle.std.specs.List.Sorted.{IsStrictlySortedBy}
use Rattle.std.specs.Map.{keys_of}
use Rattle.std.specs.declared.cmp.Ordering.TheVariants.{Less}
use Rattle.table_model.specs.Address.{Prefix, same_family}
use Rattle.table_model.specs.Order.{prefix_cmp, path_cmp}
use Rattle.table_model.specs.Width.{width}
use Rattle.table_model.specs.declared.family.Family.{Family}
use Rattle.table_model.specs.declared.family.Family.TheVariants.{V4, V6}
use Rattle.table_model.proofs.Ordered.{path_order}
use Rattle.table_model.specs.Table.{Table}
use Rattle.table_model.specs.Entries.{Entries, of_family, of_table}
use Rattle.table_model.specs.Regions.{prefixes_of, SameEntries, InOrder}
use Rattle.table_model.specs.Least.{IsAggregate, aggregate}
use Rattle.table_model.specs.Both.{AggregateInBoth, aggregate_in, aggregate_in_both}
use Rattle.table_model.proofs.Laws.{aggregate_table}
use Rattle.table_model.proofs.Patch.{aggregate_is, aggregate_fixed}
use Rattle.table_model.proofs.Same.{entry_beyond}
use Rattle.table_model.proofs.Order.{aggregate_order, order_one}

-- ---- a family's part of the entries

-- a family's entries are its table
pub family_is : (f : Family) (L : Table) → of_family f (of_table f L) ≡ L
family_is f [] = refl
family_is V4 (e ∷ L) = ap (λ (M : Table). e ∷ M) (family_is V4 L)
family_is V6 (e ∷ L) = ap (λ (M : Table). e ∷ M) (family_is V6 L)

append_family : (f : Family) (L M : Entries) → of_family f (L ++ M) ≡ of_family f L ++ of_family f M
append_family f [] M = refl
append_family f (e ∷ L) M = by_test (same_family f e.0.family) (append_family f L M)
  where
    by_test : (b : Bool) → of_family f (L ++ M) ≡ of_family f L ++ of_family f M →
        cond b (record { prefix = e.0.bits; hop = e.1 } ∷ of_family f (L ++ M)) (of_family f (L ++ M)) ≡ cond b (record { prefix = e.0.bits; hop = e.1 } ∷ of_family f L) (of_family f L) ++ of_family f M
    by_test true more = ap (λ (T : Table). record { prefix = e.0.bits; hop = e.1 } ∷ T) more
    by_test false more = more

none_of_four : (L : Table) → of_family V6 (of_table V4 L) ≡ []
none_of_four [] = refl
none_of_four (e ∷ L) = none_of_four L

none_of_six : (L : Table) → of_family V4 (of_table V6 L) ≡ []
none_of_six [] = refl
none_of_six (e ∷ L) = none_of_six L

-- of two tables, one of each family, each family has its own
pub own_table : (f : Family) (t : Family → Table) → of_family f (of_table V4 (t V4) ++ of_table V6 (t V6)) ≡ t f
own_table V4 t = append_family V4 (of_table V4 (t V4)) (of_table V6 (t V6)) ∙ (ap (λ T. of_family V4 (of_table V4 (t V4)) ++ T) (none_of_six (t V6)) ∙ (append-nil (of_family V4 (of_table V4 (t V4))) ∙ family_is V4 (t V4)))
own_table V6 t = append_family V6 (of_table V4 (t V4)) (of_table V6 (t V6)) ∙ (ap (λ T. T ++ of_family V6 (of_table V6 (t V6))) (none_of_four (t V4)) ∙ family_is V6 (t V6))

-- ---- in the order of prefixes

abbrev prefix_of : Family → List Bool → Prefix
prefix_of f p = record { family = f; bits = p }

-- a table in order stands in the order of prefixes
pub sorted_table : (f : Family) (L : Table) → AllByRecursion (λ e. length e.prefix ≤ width f) L → InOrder L → IsStrictlySortedBy prefix_cmp (keys_of (of_table f L))
unfolding IsStrictlySortedBy
sorted_table f [] l o = tt
sorted_table f (e ∷ L) l o = (all_after e.prefix L l.0 l.1 o.0, sorted_table f L l.1 o.1)
  where
    all_after : (p : List Bool) (L : Table) → length p ≤ width f → AllByRecursion (λ e. length e.prefix ≤ width f) L → AllByRecursion (λ q. path_cmp p q ≡ Less) (prefixes_of L)
        → AllByRecursion (λ q. prefix_cmp (prefix_of f p) q ≡ Less) (keys_of (of_table f L))
    all_after p [] k l a = tt
    all_after p (e ∷ L) k l a = (path_order (prefix_of f p) (prefix_of f e.prefix) k l.0 refl ∙ a.0, all_after p L k l.1 a.1)

-- a table of IPv4 comes before one of IPv6
sorted_both : (L M : Table) → IsStrictlySortedBy prefix_cmp (keys_of (of_table V4 L)) → IsStrictlySortedBy prefix_cmp (keys_of (of_table V6 M)) → IsStrictlySortedBy prefix_cmp (keys_of (of_table V4 L ++ of_table V6 M))
unfolding IsStrictlySortedBy
sorted_both [] M a b = b
sorted_both (e ∷ L) M a b = (with_six e.prefix L a.0, sorted_both L M a.1 b)
  where
    before_six : (p : List Bool) (M : Table) → AllByRecursion (λ q. prefix_cmp (prefix_of V4 p) q ≡ Less) (keys_of (of_table V6 M))
    before_six p [] = tt
    before_six p (e ∷ M) = (refl, before_six p M)

    with_six : (p : List Bool) (L : Table) → AllByRecursion (λ q. prefix_cmp (prefix_of V4 p) q ≡ Less) (keys_of (of_table V4 L)) → AllByRecursion (λ q. prefix_cmp (prefix_of V4 p) q ≡ Less) (keys_of (of_table V4 L ++ of_table V6 M))
    with_six p [] a = before_six p M
    with_six p (e ∷ L) a = (a.0, with_six p L a.1)

-- ---- the aggregate

pub sorted_aggregate : (f : Family) (R old : Table) (p : List Bool) (h : ℕ) → length p ≤ width f → IsStrictlySortedBy prefix_cmp (keys_of (of_table f (aggregate (width f) R p h old)))
sorted_aggregate f R old p h s = sorted_table f (aggregate (width f) R p h old) (aggregate_table (width f) R p h old s).1 (aggregate_order (width f) R p h old)

pub aggregates_sorted : (R old : Entries) → IsStrictlySortedBy prefix_cmp (keys_of (aggregate_in_both R old))
aggregates_sorted R old = sorted_both _ _ (sorted_aggregate V4 (of_family V4 R) (of_family V4 old) [] 0 (omega arith)) (sorted_aggregate V6 (of_family V6 R) (of_family V6 old) [] 0 (omega arith))

-- a family's aggregate, told as entries, is the aggregate by its definition
pub aggregate_in_is : (f : Family) (R old : Entries) → IsAggregate (width f) (of_family f R) [] 0 (of_family f old) (of_family f (aggregate_in f R old))
aggregate_in_is f R old =
    let A : Table = aggregate (width f) (of_family f R) [] 0 (of_family f old) in
    subst (λ (T : Table). IsAggregate (width f) (of_family f R) [] 0 (of_family f old) T) (sym (family_is f A)) (aggregate_is (width f) (of_family f R) [] 0 (of_family f old) (omega arith))

-- and so are those of both families
pub aggregates_are : (R old : Entries) → AggregateInBoth R old (aggregate_in_both R old)
aggregates_are R old f =
    let A : Family → Table = λ g. aggregate (width g) (of_family g R) [] 0 (of_family g old) in
    subst (λ (T : Table). IsAggregate (width f) (of_family f R) [] 0 (of_family f old) T) (sym (own_table f A)) (aggregate_is (width f) (of_family f R) [] 0 (of_family f old) (omega arith))

-- ---- entries in order are the tables of their families

-- none of IPv4 is after one of IPv6
none_after : (p : List Bool) (T : Entries) → AllByRecursion (λ q. prefix_cmp (prefix_of V6 p) q ≡ Less) (keys_of T) → of_family V4 T ≡ []
none_after p [] a = refl
none_after p (e ∷ T) a = of_six e.0.family e.0.bits e.1 a.0 (none_after p T a.1)
  where
    of_six : (f : Family) (q : List Bool) (h : ℕ) → prefix_cmp (prefix_of V6 p) (prefix_of f q) ≡ Less → of_family V4 T ≡ [] → of_family V4 ((prefix_of f q, h) ∷ T) ≡ []
    of_six V4 q h k n = cc
    of_six V6 q h k n = n

one_more : (f : Family) (p : List Bool) (h : ℕ) (T : Entries) → AllByRecursion (λ q. prefix_cmp (prefix_of f p) q ≡ Less) (keys_of T) → T ≡ of_table V4 (of_family V4 T) ++ of_table V6 (of_family V6 T)
    → (prefix_of f p, h) ∷ T ≡ of_table V4 (of_family V4 ((prefix_of f p, h) ∷ T)) ++ of_table V6 (of_family V6 ((prefix_of f p, h) ∷ T))
one_more V4 p h T a e = ap (λ (L : Entries). (prefix_of V4 p, h) ∷ L) e
one_more V6 p h T a e =
    let n = none_after p T a in
    ap (λ (L : Entries). (prefix_of V6 p, h) ∷ L) (e ∙ ap (λ M. of_table V4 M ++ of_table V6 (of_family V6 T)) n)
    ∙ ap (λ M. of_table V4 M ++ ((prefix_of V6 p, h) ∷ of_table V6 (of_family V6 T))) (sym n)

families : (T : Entries) → IsStrictlySortedBy prefix_cmp (keys_of T) → T ≡ of_table V4 (of_family V4 T) ++ of_table V6 (of_family V6 T)
unfolding IsStrictlySortedBy
families [] s = refl
families (e ∷ T) s = one_more e.0.family e.0.bits e.1 T s.0 (families T s.1)

-- a family's part of entries in order is in order
before_family : (f : Family) (p : List Bool) (T : Entries) → length p ≤ width f → AllByRecursion (λ e. length e.prefix ≤ width f) (of_family f T) → AllByRecursion (λ q. prefix_cmp (prefix_of f p) q ≡ Less) (keys_of T)
    → AllByRecursion (λ q. path_cmp p q ≡ Less) (prefixes_of (of_family f T))
before_family f p [] k l a = tt
before_family f p (e ∷ T) k l a = by_family f e.0.family e.0.bits e.1 k l a.0 (λ m. before_family f p T k m a.1)
  where
    by_family : (f g : Family) (q : List Bool) (h : ℕ) → length p ≤ width f → AllByRecursion (λ e. length e.prefix ≤ width f) (of_family f ((prefix_of g q, h) ∷ T)) → prefix_cmp (prefix_of f p) (prefix_of g q) ≡ Less
        → (AllByRecursion (λ e. length e.prefix ≤ width f) (of_family f T) → AllByRecursion (λ r. path_cmp p r ≡ Less) (prefixes_of (of_family f T)))
        → AllByRecursion (λ r. path_cmp p r ≡ Less) (prefixes_of (of_family f ((prefix_of g q, h) ∷ T)))
    by_family V4 V4 q h k l a ih = (sym (path_order (prefix_of V4 p) (prefix_of V4 q) k l.0 refl) ∙ a, ih l.1)
    by_family V4 V6 q h k l a ih = ih l
    by_family V6 V4 q h k l a ih = ih l
    by_family V6 V6 q h k l a ih = (sym (path_order (prefix_of V6 p) (prefix_of V6 q) k l.0 refl) ∙ a, ih l.1)

order_family : (f : Family) (T : Entries) → AllByRecursion (λ e. length e.prefix ≤ width f) (of_family f T) → IsStrictlySortedBy prefix_cmp (keys_of T) → InOrder (of_family f T)
unfolding IsStrictlySortedBy
order_family f [] l s = tt
order_family f (e ∷ T) l s = by_family f e.0.family e.0.bits e.1 l s.0 (λ m. order_family f T m s.1)
  where
    by_family : (f g : Family) (q : List Bool) (h : ℕ) → AllByRecursion (λ e. length e.prefix ≤ width f) (of_family f ((prefix_of g q, h) ∷ T)) → AllByRecursion (λ r. prefix_cmp (prefix_of g q) r ≡ Less) (keys_of T)
        → (AllByRecursion (λ e. length e.prefix ≤ width f) (of_family f T) → InOrder (of_family f T)) → InOrder (of_family f ((prefix_of g q, h) ∷ T))
    by_family V4 V4 q h l a ih = (before_family V4 q T l.0 l.1 a, ih l.1)
    by_family V4 V6 q h l a ih = ih l
    by_family V6 V4 q h l a ih = ih l
    by_family V6 V6 q h l a ih = (before_family V6 q T l.0 l.1 a, ih l.1)

-- a family's aggregate in order is the one that is computed
only_aggregate : (f : Family) (R old : Table) (T : Entries) → IsAggregate (width f) R [] 0 old (of_family f T) → IsStrictlySortedBy prefix_cmp (keys_of T) → of_family f T ≡ aggregate (width f) R [] 0 old
only_aggregate f R old T i s =
    order_one (width f) (of_family f T) (aggregate (width f) R [] 0 old) i.0 (aggregate_table (width f) R [] 0 old (omega arith)) (order_family f T i.0.1 s) (aggregate_order (width f) R [] 0 old) same
  where
    same : SameEntries (of_family f T) (aggregate (width f) R [] 0 old)
    same q = elim (cases_lt (width f) (length q)) [
      | inl l ↦ entry_beyond (width f) q (of_family f T) i.0 l ∙ sym (entry_beyond (width f) q (aggregate (width f) R [] 0 old) (aggregate_table (width f) R [] 0 old (omega arith)) l)
      | inr l ↦ aggregate_fixed (width f) R [] 0 old (of_family f T) (omega arith) i q l
    ]

pub aggregates_one : (R old T : Entries) → AggregateInBoth R old T → IsStrictlySortedBy prefix_cmp (keys_of T) → T ≡ aggregate_in_both R old
aggregates_one R old T a s =
    families T s
    ∙ (ap (λ L. of_table V4 L ++ of_table V6 (of_family V6 T)) (only_aggregate V4 (of_family V4 R) (of_family V4 old) T (a V4) s)
    ∙ ap (λ L. aggregate_in V4 R old ++ of_table V6 L) (only_aggregate V6 (of_family V6 R) (of_family V6 old) T (a V6) s))
