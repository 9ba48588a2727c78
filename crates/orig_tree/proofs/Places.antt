-- A family's table and its entries, in the order of prefixes.
use Rattle.std.proofs.Common.{◌≡◌, ℕ, ◌≤◌, List, [], ◌∷◌, Bool, true, false, Option, Some, None, cond, refl, sym, ap, ◌∙◌, subst, length}
use Rattle.std.specs.List.{AllByRecursion}
use Rattle.std.specs.List.Sorted.{IsStrictlySortedBy}
use Rattle.std.specs.Map.{keys_of, remove_entry}
use Rattle.std.specs.Ordering.{match_ordering}
use Rattle.std.specs.declared.cmp.Ordering.{Ordering}
use Rattle.std.specs.declared.cmp.Ordering.TheVariants.{Less, Equal, Greater}
use Rattle.table_model.specs.Bits.{bits_of, same_bits}
use Rattle.table_model.specs.Width.{width}
use Rattle.table_model.specs.Address.{Prefix, IsPrefix, same_prefix}
use Rattle.table_model.specs.Order.{prefix_cmp, path_cmp}
use Rattle.table_model.specs.declared.family.Family.{Family}
use Rattle.table_model.specs.declared.family.Family.TheVariants.{V4, V6}
use Rattle.table_model.proofs.Ordered.{path_order}
use Rattle.table_model.specs.Table.{Entry, Table, lpm}
use Rattle.table_model.specs.Entries.{Entries, of_family, match_in, with_entry, of_table}
use Rattle.table_model.proofs.Sums.{all_placed, sorted_placed}
pub use Rattle.table_model.proofs.Both.{family_is}
use Rattle.orig_tree.specs.Edits.{put, without, edit, routed}
use Rattle.orig_tree.specs.Views.{InPlace, Labels}

-- longest match among a family's entries
pub match_is : (f g : Family) (w q n : ℕ) (L : Table) (E : Entries) → g ≡ f → w ≡ width f → of_table f L ≡ E → n ≡ lpm L (bits_of w q) 0 →
    n ≡ match_in E (record { family = g; bits = bits_of (width g) q })
match_is f g w q n L E e s v a =
    a ∙ (ap (λ k. lpm L (bits_of k q) 0) (s ∙ ap width (sym e))
    ∙ (ap (λ M. lpm M (bits_of (width g) q) 0) (sym (family_is f L) ∙ (ap (of_family f) v ∙ ap (λ k. of_family k E) (sym e)))))

pub same_rows : (f : Family) (L M : Table) → M ≡ L → InPlace (of_table f L) → InPlace (of_table f M)
same_rows f L M e i = subst (λ (x : Table). InPlace (of_table f x)) (sym e) i

abbrev prefix_of : Family → List Bool → Prefix
prefix_of f p = record { family = f; bits = p }

-- ---- edits of a family's table are edits of its entries

put_is : (f : Family) (p : List Bool) (h : ℕ) (L : Table) → length p ≤ width f → AllByRecursion IsPrefix (keys_of (of_table f L)) → with_entry (of_table f L) (prefix_of f p, h) ≡ of_table f (put p h L)
put_is f p h [] l a = refl
put_is f p h (e ∷ L) l a =
    ap (λ o. match_ordering o ((prefix_of f p, h) ∷ of_table f (e ∷ L)) ((prefix_of f e.prefix, h) ∷ of_table f L) ((prefix_of f e.prefix, e.hop) ∷ with_entry (of_table f L) (prefix_of f p, h))) (path_order (prefix_of f p) (prefix_of f e.prefix) l a.0 refl)
    ∙ by_order (path_cmp p e.prefix) (put_is f p h L l a.1)
  where
    by_order : (o : Ordering) → with_entry (of_table f L) (prefix_of f p, h) ≡ of_table f (put p h L) →
        match_ordering o ((prefix_of f p, h) ∷ of_table f (e ∷ L)) ((prefix_of f e.prefix, h) ∷ of_table f L) ((prefix_of f e.prefix, e.hop) ∷ with_entry (of_table f L) (prefix_of f p, h))
        ≡ of_table f (match_ordering o (record { prefix = p; hop = h } ∷ e ∷ L) (record { prefix = e.prefix; hop = h } ∷ L) (e ∷ put p h L))
    by_order Less more = refl
    by_order Equal more = refl
    by_order Greater more = ap (λ r. (prefix_of f e.prefix, e.hop) ∷ r) more

without_is : (f : Family) (p : List Bool) (L : Table) → remove_entry (same_prefix (prefix_of f p)) (of_table f L) ≡ of_table f (without p L)
without_is f p [] = refl
without_is V4 p (e ∷ L) = by_test V4 (same_bits p e.prefix) e L _ (without p L) (without_is V4 p L)
  where
    by_test : (f : Family) (t : Bool) (e : Entry) (L : Table) (E : Entries) (M : Table) → E ≡ of_table f M → cond t (of_table f L) ((prefix_of f e.prefix, e.hop) ∷ E) ≡ of_table f (cond t L (e ∷ M))
    by_test f true e L E M more = refl
    by_test f false e L E M more = ap (λ r. (prefix_of f e.prefix, e.hop) ∷ r) more
without_is V6 p (e ∷ L) = by_test V6 (same_bits p e.prefix) e L _ (without p L) (without_is V6 p L)
  where
    by_test : (f : Family) (t : Bool) (e : Entry) (L : Table) (E : Entries) (M : Table) → E ≡ of_table f M → cond t (of_table f L) ((prefix_of f e.prefix, e.hop) ∷ E) ≡ of_table f (cond t L (e ∷ M))
    by_test f true e L E M more = refl
    by_test f false e L E M more = ap (λ r. (prefix_of f e.prefix, e.hop) ∷ r) more

all_removed : (P : Prefix → Type 0) (t : Prefix → Bool) (L : Entries) → AllByRecursion P (keys_of L) → AllByRecursion P (keys_of (remove_entry t L))
all_removed P t [] a = a
all_removed P t (e ∷ L) a = by_test (t e.0) (all_removed P t L a.1)
  where
    by_test : (b : Bool) → AllByRecursion P (keys_of (remove_entry t L)) → AllByRecursion P (keys_of (cond b L (e ∷ remove_entry t L)))
    by_test true more = a.1
    by_test false more = (a.0, more)

sorted_removed : (t : Prefix → Bool) (L : Entries) → IsStrictlySortedBy prefix_cmp (keys_of L) → IsStrictlySortedBy prefix_cmp (keys_of (remove_entry t L))
unfolding IsStrictlySortedBy
sorted_removed t [] s = s
sorted_removed t (e ∷ L) s = by_test (t e.0) (sorted_removed t L s.1)
  where
    by_test : (b : Bool) → IsStrictlySortedBy prefix_cmp (keys_of (remove_entry t L)) → IsStrictlySortedBy prefix_cmp (keys_of (cond b L (e ∷ remove_entry t L)))
    by_test true more = s.1
    by_test false more = (all_removed (λ r. prefix_cmp e.0 r ≡ Less) t L s.0, more)

pub in_place_put : (f : Family) (p : List Bool) (h : ℕ) (L M : Table) → length p ≤ width f → M ≡ put p h L → InPlace (of_table f L) → InPlace (of_table f M)
in_place_put f p h L M l e i =
    subst (λ (x : Entries). InPlace x) (put_is f p h L l i.0 ∙ ap (of_table f) (sym e)) (all_placed IsPrefix (of_table f L) (prefix_of f p) h i.0 l, sorted_placed (of_table f L) (prefix_of f p) h i.1)

pub in_place_without : (f : Family) (p : List Bool) (L M : Table) → M ≡ without p L → InPlace (of_table f L) → InPlace (of_table f M)
in_place_without f p L M e i =
    subst (λ (x : Entries). InPlace x) (without_is f p L ∙ ap (of_table f) (sym e)) (all_removed IsPrefix (same_prefix (prefix_of f p)) (of_table f L) i.0, sorted_removed (same_prefix (prefix_of f p)) (of_table f L) i.1)

pub in_place_nil : (f : Family) (L : Table) → L ≡ [] → InPlace (of_table f L)
unfolding IsStrictlySortedBy
in_place_nil f L e = subst (λ (x : Table). InPlace (of_table f x)) (sym e) (tt, tt)

-- the entries after a prefix's is set, or taken away
pub entries_put : (f g : Family) (p : List Bool) (h : ℕ) (L M N : Table) (E : Entries) → length p ≤ width f → g ≡ f → N ≡ L → M ≡ put p h N → of_table f L ≡ E → InPlace (of_table f L) → of_table f M ≡ with_entry E (prefix_of g p, h)
entries_put f g p h L M N E l s n e v i =
    ap (of_table f) (e ∙ ap (put p h) n) ∙ (sym (put_is f p h L l i.0) ∙ (ap (λ x. with_entry x (prefix_of f p, h)) v ∙ ap (λ k. with_entry E (prefix_of k p, h)) (sym s)))

pub entries_without : (f g : Family) (p : List Bool) (L M : Table) (E : Entries) → g ≡ f → M ≡ without p L → of_table f L ≡ E → of_table f M ≡ remove_entry (same_prefix (prefix_of g p)) E
entries_without f g p L M E s e v =
    ap (of_table f) e ∙ (sym (without_is f p L) ∙ (ap (remove_entry (same_prefix (prefix_of f p))) v ∙ ap (λ k. remove_entry (same_prefix (prefix_of k p)) E) (sym s)))

-- the same where either is done
pub in_place_edit : (f : Family) (p : List Bool) (o : Option ℕ) (L M : Table) → length p ≤ width f → M ≡ edit p o L → InPlace (of_table f L) → InPlace (of_table f M)
in_place_edit f p None L M l e i = in_place_without f p L M e i
in_place_edit f p (Some h) L M l e i = in_place_put f p h L M l e i

pub entries_edit : (f g : Family) (p : List Bool) (o : Option ℕ) (L M : Table) (E : Entries) → length p ≤ width f → g ≡ f → M ≡ edit p o L → of_table f L ≡ E → InPlace (of_table f L) → of_table f M ≡ routed (prefix_of g p) o E
entries_edit f g p None L M E l s e v i = entries_without f g p L M E s e v
entries_edit f g p (Some h) L M E l s e v i = entries_put f g p h L M L E l s refl e v i

pub labels_are : (f g : Family) (R S E D B C : Entries) (m n : List (List Bool)) → f ≡ g → R ≡ S → E ≡ D → m ≡ n → B ≡ C →
    (let a : Labels = record { family = f; routes = R; entries = E; nodes = m; before = B } in a) ≡ record { family = g; routes = S; entries = D; nodes = n; before = C }
labels_are f g R S E D B C m n a b c d e =
    ap (λ x. let l : Labels = record { family = x; routes = R; entries = E; nodes = m; before = B } in l) a
    ∙ (ap (λ x. let l : Labels = record { family = g; routes = x; entries = E; nodes = m; before = B } in l) b
    ∙ (ap (λ x. let l : Labels = record { family = g; routes = S; entries = x; nodes = m; before = B } in l) c
    ∙ (ap (λ x. let l : Labels = record { family = g; routes = S; entries = D; nodes = x; before = B } in l) d
    ∙ ap (λ x. let l : Labels = record { family = g; routes = S; entries = D; nodes = n; before = x } in l) e)))
