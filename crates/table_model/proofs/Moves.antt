-- Entries with distinct prefixes, put in order, are the same entries.
use Rattle.std.proofs.Common.{◌≡◌, ℕ, [], ◌∷◌, ◌++◌, true, false, refl, sym, ap, ◌∙◌, subst, append-nil}
use Rattle.std.specs.Prelude.{fold}
use Rattle.std.specs.List.{AllByRecursion, IsDistinct}
use Rattle.std.specs.List.Sorted.{IsPermutation}
use Rattle.std.specs.Map.{keys_of}
use Rattle.std.specs.BTreeMap.{insert_entry}
use Rattle.std.specs.Ordering.{match_ordering}
use Rattle.std.specs.declared.cmp.Ordering.{Ordering}
use Rattle.std.specs.declared.cmp.Ordering.TheVariants.{Less, Equal, Greater}
use Rattle.std.proofs.lemmas.List.Sorted.{IsPermutation-refl, IsPermutation-cons, IsPermutation-trans, IsPermutation-middle, IsPermutation-append_left}
use Rattle.table_model.specs.Address.{Prefix, IsPrefix, same_prefix}
use Rattle.table_model.specs.Order.{prefix_cmp}
use Rattle.table_model.proofs.SamePrefix.{same_prefix_itself}
use Rattle.table_model.proofs.Ordered.{equal_are_same}
use Rattle.table_model.specs.Entries.{Entries, with_entry, in_order}
use Rattle.table_model.proofs.Sums.{all_placed}

-- the order tells p from each prefix of T
abbrev IsApart : Prefix → Entries → Type 0
IsApart p T = AllByRecursion (λ q. prefix_cmp p q ≡ Equal → ⊥) (keys_of T)

placed_moves : (p : Prefix) (h : ℕ) (T : Entries) → IsApart p T → IsPermutation ((p, h) ∷ T) (insert_entry prefix_cmp T p h)
placed_moves p h [] a = IsPermutation-refl ((p, h) ∷ [])
placed_moves p h (e ∷ T) a = by_order (prefix_cmp p e.0) refl (placed_moves p h T a.1)
  where
    by_order : (o : Ordering) → prefix_cmp p e.0 ≡ o → IsPermutation ((p, h) ∷ T) (insert_entry prefix_cmp T p h) → IsPermutation ((p, h) ∷ e ∷ T) (match_ordering o ((p, h) ∷ e ∷ T) ((e.0, h) ∷ T) (e ∷ insert_entry prefix_cmp T p h))
    by_order Less c ih = IsPermutation-refl ((p, h) ∷ e ∷ T)
    by_order Equal c ih = absurd (a.0 c)
    by_order Greater c ih = IsPermutation-trans _ _ _ (IsPermutation-middle ((p, h) ∷ []) e T) (IsPermutation-cons e _ _ ih)

apart_step : (L T : Entries) (e : Prefix × ℕ) → AllByRecursion (λ p. IsApart p T) (keys_of L) → AllByRecursion (λ p. prefix_cmp p e.0 ≡ Equal → ⊥) (keys_of L) → AllByRecursion (λ p. IsApart p (with_entry T e)) (keys_of L)
apart_step [] T e a b = tt
apart_step (f ∷ L) T e a b = (all_placed (λ q. prefix_cmp f.0 q ≡ Equal → ⊥) T e.0 e.1 a.0 b.0, apart_step L T e a.1 b.1)

-- each is apart from those after it
abbrev AreApart : Entries → Type 0
AreApart [] = Unit {0}
AreApart (e ∷ L) = AllByRecursion (λ p. prefix_cmp p e.0 ≡ Equal → ⊥) (keys_of L) × AreApart L

all_move : (L T : Entries) → AreApart L → AllByRecursion (λ p. IsApart p T) (keys_of L) → IsPermutation (T ++ L) (fold with_entry T L)
all_move [] T a b = let P : Entries → Type 0 = λ xs. IsPermutation xs T in subst P (sym (append-nil T)) (IsPermutation-refl T)
all_move (e ∷ L) T a b =
    IsPermutation-trans _ _ _ (IsPermutation-middle T e L)
    (IsPermutation-trans _ _ _ (IsPermutation-append_left L (e ∷ T) (with_entry T e) (placed_moves e.0 e.1 T b.0)) (all_move L (with_entry T e) a.1 (apart_step L T e b.1 a.0)))

apart_from : (e : Prefix × ℕ) (L : Entries) → IsPrefix e.0 → AllByRecursion IsPrefix (keys_of L) → AllByRecursion (λ p. same_prefix e.0 p ≡ false) (keys_of L) → AllByRecursion (λ p. prefix_cmp p e.0 ≡ Equal → ⊥) (keys_of L)
apart_from e [] x a d = tt
apart_from e (f ∷ L) x a d = (λ c. other (equal_are_same f.0 e.0 a.0 x c), apart_from e L x a.1 d.1)
  where
    other : f.0 ≡ e.0 → ⊥
    other s = let t : same_prefix e.0 f.0 ≡ true = ap (same_prefix e.0) s ∙ same_prefix_itself e.0 in let u : same_prefix e.0 f.0 ≡ false = d.0 in cc

apart_all : (L : Entries) → AllByRecursion IsPrefix (keys_of L) → IsDistinct same_prefix (keys_of L) → AreApart L
unfolding IsDistinct
apart_all [] a d = tt
apart_all (e ∷ L) a d = (apart_from e L a.0 a.1 d.0, apart_all L a.1 d.1)

none_there : (L : Entries) → AllByRecursion (λ p. IsApart p []) (keys_of L)
none_there [] = tt
none_there (e ∷ L) = (tt, none_there L)

pub in_order_moves : (L : Entries) → AllByRecursion IsPrefix (keys_of L) → IsDistinct same_prefix (keys_of L) → IsPermutation L (in_order L)
in_order_moves L a d = all_move L [] (apart_all L a d) (none_there L)
