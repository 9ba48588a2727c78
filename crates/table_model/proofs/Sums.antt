-- The sum of additions in order, and entries put in order.
use Rattle.std.proofs.Common.{◌≡◌, ℕ, [], ◌∷◌, ◌++◌, Bool, true, false, cond, Some, None, refl, sym, ap, ◌∙◌, append_assoc}
use Rattle.std.specs.Prelude.{is_some, fold}
use Rattle.std.specs.List.{AllByRecursion}
use Rattle.std.specs.List.Sorted.{IsStrictlySortedBy}
use Rattle.std.specs.Map.{lookup, keys_of}
use Rattle.std.specs.BTreeMap.{insert_entry}
use Rattle.std.specs.Ordering.{match_ordering, ordering_reverse}
use Rattle.std.specs.Option.{option_and_then}
use Rattle.std.proofs.Common.{append-nil}
use Rattle.std.specs.declared.cmp.Ordering.{Ordering}
use Rattle.std.specs.declared.cmp.Ordering.TheVariants.{Less, Equal, Greater}
use Rattle.std.proofs.lemmas.Cmp.{tied_itself}
use Rattle.table_model.specs.Address.{Prefix, same_prefix}
use Rattle.table_model.specs.Order.{prefix_cmp}
use Rattle.table_model.proofs.SamePrefix.{same_prefix_is}
use Rattle.table_model.proofs.Ordered.{prefix_total}
use Rattle.table_model.specs.Entries.{Entries, with_entry, in_order}
use Rattle.table_model.specs.Changes.{additions, is_held, after_changes, sum_of}

-- ---- entries put in their places stay in order

pub all_placed : (P : Prefix → Type 0) (L : Entries) (p : Prefix) (h : ℕ) → AllByRecursion P (keys_of L) → P p → AllByRecursion P (keys_of (insert_entry prefix_cmp L p h))
all_placed P [] p h a x = (x, tt)
all_placed P (e ∷ L) p h a x = by_order (prefix_cmp p e.0) (all_placed P L p h a.1 x)
  where
    by_order : (o : Ordering) → AllByRecursion P (keys_of (insert_entry prefix_cmp L p h)) → AllByRecursion P (keys_of (match_ordering o ((p, h) ∷ e ∷ L) ((e.0, h) ∷ L) (e ∷ insert_entry prefix_cmp L p h)))
    by_order Less more = (x, a)
    by_order Equal more = a
    by_order Greater more = (a.0, more)

all_after : (p q : Prefix) (L : Entries) → prefix_cmp p q ≡ Less → AllByRecursion (λ r. prefix_cmp q r ≡ Less) (keys_of L) → AllByRecursion (λ r. prefix_cmp p r ≡ Less) (keys_of L)
all_after p q [] h a = tt
all_after p q (e ∷ L) h a = (prefix_total.trans p q e.0 h a.0, all_after p q L h a.1)

less_back : (p q : Prefix) → prefix_cmp p q ≡ Greater → prefix_cmp q p ≡ Less
less_back p q e = prefix_total.antisymm q p ∙ ap ordering_reverse e

pub sorted_placed : (L : Entries) (p : Prefix) (h : ℕ) → IsStrictlySortedBy prefix_cmp (keys_of L) → IsStrictlySortedBy prefix_cmp (keys_of (insert_entry prefix_cmp L p h))
unfolding IsStrictlySortedBy
sorted_placed [] p h s = (tt, tt)
sorted_placed (e ∷ L) p h s = by_order (prefix_cmp p e.0) refl (sorted_placed L p h s.1)
  where
    by_order : (o : Ordering) → prefix_cmp p e.0 ≡ o → IsStrictlySortedBy prefix_cmp (keys_of (insert_entry prefix_cmp L p h)) → IsStrictlySortedBy prefix_cmp (keys_of (match_ordering o ((p, h) ∷ e ∷ L) ((e.0, h) ∷ L) (e ∷ insert_entry prefix_cmp L p h)))
    by_order Less c more = ((c, all_after p e.0 L c s.0), s)
    by_order Equal c more = s
    by_order Greater c more = (all_placed (λ r. prefix_cmp e.0 r ≡ Less) L p h s.0 (less_back p e.0 c), more)

-- entries put one after another into a table in order are in order
sorted_from : (L T : Entries) → IsStrictlySortedBy prefix_cmp (keys_of T) → IsStrictlySortedBy prefix_cmp (keys_of (fold with_entry T L))
sorted_from [] T s = s
sorted_from (e ∷ L) T s = sorted_from L (with_entry T e) (sorted_placed T e.0 e.1 s)

pub in_order_sorted : (L : Entries) → IsStrictlySortedBy prefix_cmp (keys_of (in_order L))
unfolding IsStrictlySortedBy
in_order_sorted L = sorted_from L [] tt

-- ---- additions in order

abbrev AllBelow : Prefix → Entries → Type 0
AllBelow p T = AllByRecursion (λ q. prefix_cmp q p ≡ Less) (keys_of T)

not_held : (p : Prefix) (T : Entries) → AllBelow p T → is_held p T ≡ false
not_held p [] a = refl
not_held p (e ∷ T) a = by_test (same_prefix p e.0) refl (not_held p T a.1)
  where
    by_test : (b : Bool) → same_prefix p e.0 ≡ b → is_held p T ≡ false → is_some (cond b (Some e.1) (lookup (same_prefix p) T)) ≡ false
    by_test true t ih = let same : p ≡ e.0 = same_prefix_is p e.0 t in let tie : prefix_cmp p p ≡ Less = ap (λ x. prefix_cmp x p) same ∙ a.0 in let eq : prefix_cmp p p ≡ Equal = tied_itself prefix_total p in absurd cc
    by_test false t ih = ih

at_the_end : (p : Prefix) (h : ℕ) (T : Entries) → AllBelow p T → insert_entry prefix_cmp T p h ≡ T ++ ((p, h) ∷ [])
at_the_end p h [] a = refl
at_the_end p h (e ∷ T) a =
    let c : prefix_cmp p e.0 ≡ Greater = prefix_total.antisymm p e.0 ∙ ap ordering_reverse a.0 in
    ap (λ o. match_ordering o ((p, h) ∷ e ∷ T) ((e.0, h) ∷ T) (e ∷ insert_entry prefix_cmp T p h)) c ∙ ap (λ L. e ∷ L) (at_the_end p h T a.1)

all_at_end : (P : Prefix → Type 0) (T : Entries) (e : Prefix × ℕ) → AllByRecursion P (keys_of T) → P e.0 → AllByRecursion P (keys_of (T ++ (e ∷ [])))
all_at_end P [] e a x = (x, tt)
all_at_end P (f ∷ T) e a x = (a.0, all_at_end P T e a.1 x)

-- each entry of L is above each of T
abbrev AreAbove : Entries → Entries → Type 0
AreAbove L T = AllByRecursion (λ p. AllBelow p T) (keys_of L)

above_more : (L T : Entries) (e : Prefix × ℕ) → AreAbove L T → AllByRecursion (λ p. prefix_cmp e.0 p ≡ Less) (keys_of L) → AreAbove L (T ++ (e ∷ []))
above_more [] T e a b = tt
above_more (f ∷ L) T e a b = (all_at_end (λ q. prefix_cmp q f.0 ≡ Less) T e a.0 b.0, above_more L T e a.1 b.1)

added : (L T : Entries) → IsStrictlySortedBy prefix_cmp (keys_of L) → AreAbove L T → after_changes (additions L) T ≡ Some (T ++ L)
unfolding IsStrictlySortedBy
added [] T s a = ap Some (sym (append-nil T))
added (e ∷ L) T s a =
    ap (λ b. option_and_then (after_changes (additions L)) (cond b None (Some (with_entry T e)))) (not_held e.0 T a.0)
    ∙ (ap (after_changes (additions L)) (at_the_end e.0 e.1 T a.0)
    ∙ (added L (T ++ (e ∷ [])) s.1 (above_more L T e a.1 s.0) ∙ ap Some (append_assoc T (e ∷ []) L)))

none_above : (L : Entries) → AreAbove L []
none_above [] = tt
none_above (e ∷ L) = (tt, none_above L)

-- the sum of additions in order is the table that they add
pub sum_of-additions : (L : Entries) → IsStrictlySortedBy prefix_cmp (keys_of L) → sum_of (additions L) ≡ Some L
sum_of-additions L s = added L [] s (none_above L)

placed : (L T : Entries) → IsStrictlySortedBy prefix_cmp (keys_of L) → AreAbove L T → fold with_entry T L ≡ T ++ L
unfolding IsStrictlySortedBy
placed [] T s a = sym (append-nil T)
placed (e ∷ L) T s a = ap (λ t. fold with_entry t L) (at_the_end e.0 e.1 T a.0) ∙ (placed L (T ++ (e ∷ [])) s.1 (above_more L T e a.1 s.0) ∙ append_assoc T (e ∷ []) L)

-- entries in order, put in order, are these entries
pub in_order_again : (L : Entries) → IsStrictlySortedBy prefix_cmp (keys_of L) → in_order L ≡ L
in_order_again L s = placed L [] s (none_above L)
