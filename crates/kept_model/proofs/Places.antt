-- Where the changes between two tables are.
use Rattle.std.proofs.Common.{◌≡◌, ℕ, List, [], ◌∷◌, ◌++◌, Bool, true, false, cond, Option, Some, None, nat_eq, refl, sym, ap, ◌∙◌, append-nil}
use Rattle.std.specs.Prelude.{map, filter, ◌||◌}
use Rattle.std.specs.List.{AllByRecursion, list_any}
use Rattle.std.specs.List.Sorted.{IsStrictlySortedBy}
use Rattle.std.specs.Map.{keys_of}
use Rattle.std.specs.declared.cmp.Ordering.TheVariants.{Less}
use Rattle.table_model.specs.Address.{Prefix, same_prefix}
use Rattle.table_model.specs.Order.{prefix_cmp}
use Rattle.table_model.specs.Entries.{Entries, in_order}
use Rattle.table_model.specs.Changes.{Change, Replace}
use Rattle.table_model.proofs.Sums.{in_order_sorted}
use Rattle.route_model.proofs.Places.{prefix_key}
use Rattle.kept_model.specs.Between.{AreEntries, place_of, entry_hop_at, change_at, changes_at, between}
use Rattle.kept_model.proofs.Held.{any_of_both, not_either}
use Rattle.kept_model.proofs.Sums.{apart}

all_at : (P : Prefix → Type 0) (p : Prefix) (a b : Option ℕ) (cs : List Change) → P p → AllByRecursion P (map place_of cs) → AllByRecursion P (map place_of (change_at p a b ++ cs))
all_at P p None None cs x r = r
all_at P p None (Some h) cs x r = (x, r)
all_at P p (Some g) None cs x r = (x, r)
all_at P p (Some g) (Some h) cs x r = by_test (nat_eq g h)
  where
    by_test : (t : Bool) → AllByRecursion P (map place_of (cond t [] (Replace p h ∷ []) ++ cs))
    by_test true = r
    by_test false = (x, r)

pub all_kept : (P : Prefix → Type 0) (ps : List Prefix) (old new : Entries) → AllByRecursion P ps → AllByRecursion P (map place_of (changes_at ps old new))
all_kept P [] old new a = tt
all_kept P (p ∷ ps) old new a = all_at P p (entry_hop_at p old) (entry_hop_at p new) (changes_at ps old new) a.0 (all_kept P ps old new a.1)

sorted_at : (p : Prefix) (a b : Option ℕ) (cs : List Change) → AllByRecursion (λ q. prefix_cmp p q ≡ Less) (map place_of cs) → IsStrictlySortedBy prefix_cmp (map place_of cs) → IsStrictlySortedBy prefix_cmp (map place_of (change_at p a b ++ cs))
unfolding IsStrictlySortedBy
sorted_at p None None cs x s = s
sorted_at p None (Some h) cs x s = (x, s)
sorted_at p (Some g) None cs x s = (x, s)
sorted_at p (Some g) (Some h) cs x s = by_test (nat_eq g h)
  where
    by_test : (t : Bool) → IsStrictlySortedBy prefix_cmp (map place_of (cond t [] (Replace p h ∷ []) ++ cs))
    by_test true = s
    by_test false = (x, s)

sorted_kept : (ps : List Prefix) (old new : Entries) → IsStrictlySortedBy prefix_cmp ps → IsStrictlySortedBy prefix_cmp (map place_of (changes_at ps old new))
unfolding IsStrictlySortedBy
sorted_kept [] old new s = tt
sorted_kept (p ∷ ps) old new s = sorted_at p (entry_hop_at p old) (entry_hop_at p new) (changes_at ps old new) (all_kept (λ q. prefix_cmp p q ≡ Less) ps old new s.0) (sorted_kept ps old new s.1)

pub in_places : (old new : Entries) → IsStrictlySortedBy prefix_cmp (map place_of (between old new))
unfolding between
in_places old new = sorted_kept (keys_of (in_order (old ++ new))) old new (in_order_sorted (old ++ new))

-- ---- the change at a prefix

abbrev pub at : Prefix → List Change → List Change
at p cs = filter (λ c. same_prefix p (place_of c)) cs

at_one : (p q : Prefix) (a b : Option ℕ) (cs : List Change) → at p (change_at q a b ++ cs) ≡ cond (same_prefix p q) (change_at q a b ++ at p cs) (at p cs)
at_one p q None None cs = same (same_prefix p q)
  where
    same : (t : Bool) → at p cs ≡ cond t (at p cs) (at p cs)
    same true = refl
    same false = refl
at_one p q None (Some h) cs = refl
at_one p q (Some g) None cs = refl
at_one p q (Some g) (Some h) cs = by_test (nat_eq g h) (same_prefix p q) refl
  where
    by_test : (t s : Bool) → same_prefix p q ≡ s → at p (cond t [] (Replace q h ∷ []) ++ cs) ≡ cond s (cond t [] (Replace q h ∷ []) ++ at p cs) (at p cs)
    by_test true true e = refl
    by_test true false e = refl
    by_test false true e = ap (λ z. cond z (Replace q h ∷ at p cs) (at p cs)) e
    by_test false false e = ap (λ z. cond z (Replace q h ∷ at p cs) (at p cs)) e

at_all : (p : Prefix) (ps : List Prefix) (old new : Entries) → IsStrictlySortedBy prefix_cmp ps → at p (changes_at ps old new) ≡ cond (list_any (same_prefix p) ps) (change_at p (entry_hop_at p old) (entry_hop_at p new)) []
unfolding IsStrictlySortedBy
at_all p [] old new s = refl
at_all p (q ∷ ps) old new s = at_one p q (entry_hop_at q old) (entry_hop_at q new) (changes_at ps old new) ∙ by_test (same_prefix p q) refl (at_all p ps old new s.1)
  where
    by_test : (t : Bool) → same_prefix p q ≡ t → at p (changes_at ps old new) ≡ cond (list_any (same_prefix p) ps) (change_at p (entry_hop_at p old) (entry_hop_at p new)) []
        → cond t (change_at q (entry_hop_at q old) (entry_hop_at q new) ++ at p (changes_at ps old new)) (at p (changes_at ps old new)) ≡ cond (t || list_any (same_prefix p) ps) (change_at p (entry_hop_at p old) (entry_hop_at p new)) []
    by_test true t ih =
        let none : at p (changes_at ps old new) ≡ [] = ih ∙ ap (λ z. cond z (change_at p (entry_hop_at p old) (entry_hop_at p new)) []) (apart q p ps t s.0) in
        ap (λ z. change_at q (entry_hop_at q old) (entry_hop_at q new) ++ z) none ∙ (append-nil (change_at q (entry_hop_at q old) (entry_hop_at q new)) ∙ ap (λ z. change_at z (entry_hop_at z old) (entry_hop_at z new)) (sym (prefix_key.same p q t)))
    by_test false t ih = ih

pub each_at : (old new : Entries) (p : Prefix) → AreEntries old → AreEntries new → at p (between old new) ≡ change_at p (entry_hop_at p old) (entry_hop_at p new)
unfolding between
each_at old new p a b = at_all p (keys_of (in_order (old ++ new))) old new (in_order_sorted (old ++ new)) ∙ by_test (list_any (same_prefix p) (keys_of (in_order (old ++ new)))) refl
  where
    by_test : (t : Bool) → list_any (same_prefix p) (keys_of (in_order (old ++ new))) ≡ t → cond t (change_at p (entry_hop_at p old) (entry_hop_at p new)) [] ≡ change_at p (entry_hop_at p old) (entry_hop_at p new)
    by_test true e = refl
    by_test false e =
        let n = not_either (entry_hop_at p old) (entry_hop_at p new) (sym (any_of_both p old new a.0 b.0) ∙ e) in
        sym (ap (λ o. change_at p o (entry_hop_at p new)) n.0 ∙ ap (change_at p None) n.1)
