-- What tables hold at prefixes, put in order.
use Rattle.std.proofs.Common.{◌≡◌, ℕ, List, [], ◌∷◌, ◌++◌, Bool, true, false, cond, Option, Some, None, refl, sym, ap, ◌∙◌}
use Rattle.std.specs.Prelude.{is_some, fold, ◌||◌}
use Rattle.std.specs.List.{AllByRecursion, IsDistinct, list_any}
use Rattle.std.specs.List.Sorted.{IsStrictlySortedBy}
use Rattle.std.specs.Map.{keys_of}
use Rattle.table_model.specs.Address.{Prefix, IsPrefix, same_prefix}
use Rattle.table_model.specs.Order.{prefix_cmp}
use Rattle.table_model.specs.Entries.{Entries, with_entry, in_order}
use Rattle.table_model.specs.Changes.{is_held}
use Rattle.table_model.proofs.Sums.{in_order_sorted, all_placed}
use Rattle.route_model.proofs.Keyed.{lookup-put}
use Rattle.route_model.proofs.Places.{prefix_key}
use Rattle.kept_model.specs.Between.{AreEntries, entry_hop_at}

-- prefixes in order, each once
abbrev pub Placed : Entries → Type 0
Placed L = AllByRecursion IsPrefix (keys_of L) × IsStrictlySortedBy prefix_cmp (keys_of L)

-- the first of two, else the second
abbrev pub first : Option ℕ → Option ℕ → Option ℕ
first None o = o
first (Some h) o = Some h

-- ---- lookups of entries put in order

other : (p q : Prefix) (L : Entries) → same_prefix p q ≡ true → AllByRecursion (λ r. same_prefix q r ≡ false) (keys_of L) → entry_hop_at p L ≡ None
other p q [] e a = refl
other p q (f ∷ L) e a =
    let s : p ≡ q = prefix_key.same p q e in
    ap (λ b. cond b (Some f.1) (entry_hop_at p L)) (ap (λ r. same_prefix r f.0) s ∙ a.0) ∙ other p q L e a.1

pub hop_folded : (p : Prefix) (L T : Entries) → AllByRecursion IsPrefix (keys_of L) → IsDistinct same_prefix (keys_of L) → AllByRecursion IsPrefix (keys_of T) → entry_hop_at p (fold with_entry T L) ≡ first (entry_hop_at p L) (entry_hop_at p T)
unfolding IsDistinct
hop_folded p [] T a d b = refl
hop_folded p (e ∷ L) T a d b =
    hop_folded p L (with_entry T e) a.1 d.1 (all_placed IsPrefix T e.0 e.1 b a.0)
    ∙ (ap (first (entry_hop_at p L)) (lookup-put prefix_key p T e.0 e.1 b a.0) ∙ by_test (same_prefix p e.0) refl)
  where
    by_test : (t : Bool) → same_prefix p e.0 ≡ t → first (entry_hop_at p L) (cond t (Some e.1) (entry_hop_at p T)) ≡ first (cond t (Some e.1) (entry_hop_at p L)) (entry_hop_at p T)
    by_test true t = ap (λ o. first o (Some e.1)) (other p e.0 L t d.0)
    by_test false t = refl

none_after : (o : Option ℕ) → first o None ≡ o
none_after None = refl
none_after (Some h) = refl

pub hop_in_order : (p : Prefix) (L : Entries) → AreEntries L → entry_hop_at p (in_order L) ≡ entry_hop_at p L
hop_in_order p L a = hop_folded p L [] a.0 a.1 tt ∙ none_after (entry_hop_at p L)

-- ---- where they are

pub all_folded : (P : Prefix → Type 0) (L T : Entries) → AllByRecursion P (keys_of L) → AllByRecursion P (keys_of T) → AllByRecursion P (keys_of (fold with_entry T L))
all_folded P [] T a b = b
all_folded P (e ∷ L) T a b = all_folded P L (with_entry T e) a.1 (all_placed P T e.0 e.1 b a.0)

pub in_order_placed : (L : Entries) → AllByRecursion IsPrefix (keys_of L) → Placed (in_order L)
in_order_placed L a = (all_folded IsPrefix L [] a tt, in_order_sorted L)

pub all_both : {X : Type 0} (P : Prefix → Type 0) (L M : List (Prefix × X)) → AllByRecursion P (keys_of L) → AllByRecursion P (keys_of M) → AllByRecursion P (keys_of (L ++ M))
all_both P [] M a b = b
all_both P (e ∷ L) M a b = (a.0, all_both P L M a.1 b)

some_cond : (b : Bool) (h : ℕ) (o : Option ℕ) → is_some (cond b (Some h) o) ≡ (b || is_some o)
some_cond true h o = refl
some_cond false h o = refl

held_any : (p : Prefix) (L : Entries) → is_held p L ≡ list_any (same_prefix p) (keys_of L)
held_any p [] = refl
held_any p (e ∷ L) = some_cond (same_prefix p e.0) e.1 (entry_hop_at p L) ∙ ap (λ b. same_prefix p e.0 || b) (held_any p L)

any_both : (p : Prefix) (L M : Entries) → list_any (same_prefix p) (keys_of (L ++ M)) ≡ (list_any (same_prefix p) (keys_of L) || list_any (same_prefix p) (keys_of M))
any_both p [] M = refl
any_both p (e ∷ L) M = ap (λ b. same_prefix p e.0 || b) (any_both p L M) ∙ regroup (same_prefix p e.0) (list_any (same_prefix p) (keys_of L)) (list_any (same_prefix p) (keys_of M))
  where
    regroup : (a b c : Bool) → (a || (b || c)) ≡ ((a || b) || c)
    regroup true b c = refl
    regroup false b c = refl

held_folded : (p : Prefix) (L T : Entries) → AllByRecursion IsPrefix (keys_of L) → AllByRecursion IsPrefix (keys_of T) → is_held p (fold with_entry T L) ≡ (list_any (same_prefix p) (keys_of L) || is_held p T)
held_folded p [] T a b = refl
held_folded p (e ∷ L) T a b =
    held_folded p L (with_entry T e) a.1 (all_placed IsPrefix T e.0 e.1 b a.0)
    ∙ (ap (λ x. list_any (same_prefix p) (keys_of L) || x) (ap is_some (lookup-put prefix_key p T e.0 e.1 b a.0) ∙ some_cond (same_prefix p e.0) e.1 (entry_hop_at p T)) ∙ regroup (list_any (same_prefix p) (keys_of L)) (same_prefix p e.0) (is_held p T))
  where
    regroup : (a b c : Bool) → (a || (b || c)) ≡ ((b || a) || c)
    regroup true true c = refl
    regroup true false c = refl
    regroup false true c = refl
    regroup false false c = refl

or_false : (b : Bool) → (b || false) ≡ b
or_false true = refl
or_false false = refl

-- a prefix is among those of both tables where one of them has an entry there
pub any_of_both : (p : Prefix) (L M : Entries) → AllByRecursion IsPrefix (keys_of L) → AllByRecursion IsPrefix (keys_of M) → list_any (same_prefix p) (keys_of (in_order (L ++ M))) ≡ (is_held p L || is_held p M)
any_of_both p L M a b =
    sym (held_any p (in_order (L ++ M)))
    ∙ (held_folded p (L ++ M) [] (all_both IsPrefix L M a b) tt
    ∙ (or_false (list_any (same_prefix p) (keys_of (L ++ M)))
    ∙ (any_both p L M ∙ (ap (λ x. x || list_any (same_prefix p) (keys_of M)) (sym (held_any p L)) ∙ ap (λ x. is_held p L || x) (sym (held_any p M))))))

none_held : (o : Option ℕ) → is_some o ≡ false → o ≡ None
none_held None e = refl
none_held (Some h) e = cc

pub not_either : (a b : Option ℕ) → (is_some a || is_some b) ≡ false → (a ≡ None) × (b ≡ None)
not_either None None e = (refl, refl)
not_either None (Some h) e = cc
not_either (Some g) b e = cc
