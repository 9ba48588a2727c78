-- Which tables have the same changes between them.
use Rattle.std.proofs.Common.{◌≡◌, ℕ, List, [], ◌∷◌, ◌++◌, Bool, true, false, cond, Option, Some, None, refl, sym, ap, subst, ◌∙◌}
use Rattle.std.specs.Prelude.{map, filter, not}
use Rattle.std.specs.List.{AllByRecursion}
use Rattle.std.specs.List.Sorted.{IsStrictlySortedBy}
use Rattle.std.specs.Map.{lookup, keys_of}
use Rattle.std.specs.Option.{option_and_then}
use Rattle.std.proofs.lemmas.Bool.{eq-eqb}
use Rattle.table_model.specs.Address.{Prefix, IsPrefix, same_prefix}
use Rattle.table_model.specs.Order.{prefix_cmp}
use Rattle.table_model.specs.Entries.{Entries, in_order}
use Rattle.table_model.specs.Changes.{Change, Replace, after_changes}
use Rattle.table_model.proofs.Sums.{in_order_again}
use Rattle.table_model.proofs.Once.{once_sorted}
use Rattle.route_model.proofs.Keyed.{same_entries, lookup-filter, all_filter, sorted_filter}
use Rattle.route_model.proofs.Places.{prefix_key}
use Rattle.kept_model.specs.Between.{AreEntries, place_of, entry_hop_at, change_at, changes_at, between}
use Rattle.kept_model.proofs.Sums.{made}
use Rattle.kept_model.proofs.Held.{Placed, first, in_order_placed, all_folded, all_both}
use Rattle.kept_model.proofs.Places.{at, all_kept, in_places, each_at}
use Rattle.kept_model.proofs.Reordered.{hop_of_both}

-- ---- changes in order are known by what stands at each prefix

abbrev keyed : List Change → List (Prefix × Change)
keyed cs = map (λ c. (place_of c, c)) cs

abbrev leading : List Change → Option Change
leading [] = None
leading (c ∷ cs) = Some c

keys_keyed : (cs : List Change) → keys_of (keyed cs) ≡ map place_of cs
keys_keyed [] = refl
keys_keyed (c ∷ cs) = ap (λ ps. place_of c ∷ ps) (keys_keyed cs)

lookup-keyed : (p : Prefix) (cs : List Change) → lookup (same_prefix p) (keyed cs) ≡ leading (at p cs)
lookup-keyed p [] = refl
lookup-keyed p (c ∷ cs) = by_test (same_prefix p (place_of c)) (lookup-keyed p cs)
  where
    by_test : (t : Bool) → lookup (same_prefix p) (keyed cs) ≡ leading (at p cs) → cond t (Some c) (lookup (same_prefix p) (keyed cs)) ≡ leading (cond t (c ∷ at p cs) (at p cs))
    by_test true ih = refl
    by_test false ih = ih

unkeyed : (cs : List Change) → map (λ (e : Prefix × Change). e.1) (keyed cs) ≡ cs
unkeyed [] = refl
unkeyed (c ∷ cs) = ap (λ ds. c ∷ ds) (unkeyed cs)

pub same_changes : (cs ds : List Change) → IsStrictlySortedBy prefix_cmp (map place_of cs) → IsStrictlySortedBy prefix_cmp (map place_of ds) → AllByRecursion IsPrefix (map place_of cs) → AllByRecursion IsPrefix (map place_of ds)
    → ((p : Prefix) → at p cs ≡ at p ds) → cs ≡ ds
same_changes cs ds s t a b h =
    let sorted : (es : List Change) → IsStrictlySortedBy prefix_cmp (map place_of es) → IsStrictlySortedBy prefix_cmp (keys_of (keyed es)) = λ es r. subst (λ (ps : List Prefix). IsStrictlySortedBy prefix_cmp ps) (sym (keys_keyed es)) r in
    let all : (es : List Change) → AllByRecursion IsPrefix (map place_of es) → AllByRecursion IsPrefix (keys_of (keyed es)) = λ es r. subst (λ (ps : List Prefix). AllByRecursion IsPrefix ps) (sym (keys_keyed es)) r in
    let same : keyed cs ≡ keyed ds = same_entries prefix_key (keyed cs) (keyed ds) (sorted cs s) (sorted ds t) (all cs a) (all ds b) (λ p. lookup-keyed p cs ∙ (ap leading (h p) ∙ sym (lookup-keyed p ds))) in
    sym (unkeyed cs) ∙ (ap (map (λ (e : Prefix × Change). e.1)) same ∙ unkeyed ds)

-- every change is at a prefix of one of the tables
pub all_between : (P : Prefix → Type 0) (old new : Entries) → AllByRecursion P (keys_of old) → AllByRecursion P (keys_of new) → AllByRecursion P (map place_of (between old new))
unfolding between
all_between P old new a b = all_kept P (keys_of (in_order (old ++ new))) old new (all_folded P (old ++ new) [] (all_both P old new a b) tt)

-- what needs the same at each prefix has the same changes
pub alike_changes : (A B T N : Entries) → AreEntries A → AreEntries B → AreEntries T → AreEntries N → ((p : Prefix) → change_at p (entry_hop_at p T) (entry_hop_at p N) ≡ change_at p (entry_hop_at p A) (entry_hop_at p B)) → between T N ≡ between A B
alike_changes A B T N a b t n h =
    same_changes (between T N) (between A B) (in_places T N) (in_places A B) (all_between IsPrefix T N t.0 n.0) (all_between IsPrefix A B a.0 b.0)
    (λ p. each_at T N p t n ∙ (h p ∙ sym (each_at A B p a b)))

-- ---- a part of a table replaced

-- the entries at prefixes that pass the test, and the others
abbrev pub part : (Prefix → Bool) → Entries → Entries
part t L = filter (λ e. t e.0) L

abbrev pub other_part : (Prefix → Bool) → Entries → Entries
other_part t L = filter (λ e. not (t e.0)) L

some_or_none : (b : Bool) (o : Option ℕ) → option_and_then (λ v. cond b (Some v) None) o ≡ cond b o None
some_or_none true None = refl
some_or_none true (Some h) = refl
some_or_none false None = refl
some_or_none false (Some h) = refl

hop_in_part : (t : Prefix → Bool) (p : Prefix) (L : Entries) → Placed L → entry_hop_at p (part t L) ≡ cond (t p) (entry_hop_at p L) None
hop_in_part t p L s = lookup-filter prefix_key (λ e. t e.0) p L s.1 ∙ some_or_none (t p) (entry_hop_at p L)

hop_in_other : (t : Prefix → Bool) (p : Prefix) (L : Entries) → Placed L → entry_hop_at p (other_part t L) ≡ cond (not (t p)) (entry_hop_at p L) None
hop_in_other t p L s = lookup-filter prefix_key (λ e. not (t e.0)) p L s.1 ∙ some_or_none (not (t p)) (entry_hop_at p L)

part_placed : (t : Prefix × ℕ → Bool) (L : Entries) → Placed L → Placed (filter t L)
part_placed t L s = (all_filter t IsPrefix L s.0, sorted_filter prefix_cmp t L s.1)

pub placed_are : (L : Entries) → Placed L → AreEntries L
placed_are L s = (s.0, once_sorted (keys_of L) s.1)

none_elsewhere : (t : Prefix → Bool) (p : Prefix) (W : Entries) → AllByRecursion (λ q. t q ≡ true) (keys_of W) → t p ≡ false → entry_hop_at p W ≡ None
none_elsewhere t p [] a n = refl
none_elsewhere t p (e ∷ W) a n = by_test (same_prefix p e.0) refl (none_elsewhere t p W a.1 n)
  where
    by_test : (b : Bool) → same_prefix p e.0 ≡ b → entry_hop_at p W ≡ None → cond b (Some e.1) (entry_hop_at p W) ≡ None
    by_test true s ih = let x : t e.0 ≡ false = ap t (sym (prefix_key.same p e.0 s)) ∙ n in let y : t e.0 ≡ true = a.0 in absurd cc
    by_test false s ih = ih

no_change : (p : Prefix) (o : Option ℕ) → change_at p o o ≡ []
no_change p None = refl
no_change p (Some h) = ap (λ b. cond b [] (Replace p h ∷ [])) (eq-eqb h h refl)

first_none : (o : Option ℕ) → first o None ≡ o
first_none None = refl
first_none (Some h) = refl

-- the table with the entries that pass the test replaced by these
abbrev pub replaced : (Prefix → Bool) → Entries → Entries → Entries
replaced t T W = in_order (other_part t T ++ W)

pub hop_in_replaced : (t : Prefix → Bool) (p : Prefix) (T W : Entries) → Placed T → AreEntries W → AllByRecursion (λ q. t q ≡ true) (keys_of W) → entry_hop_at p (replaced t T W) ≡ cond (t p) (entry_hop_at p W) (entry_hop_at p T)
hop_in_replaced t p T W s a w =
    hop_of_both p (other_part t T) W (placed_are (other_part t T) (part_placed (λ e. not (t e.0)) T s)) a
    ∙ (ap (first (entry_hop_at p W)) (hop_in_other t p T s) ∙ by_test (t p) refl)
  where
    by_test : (b : Bool) → t p ≡ b → first (entry_hop_at p W) (cond (not b) (entry_hop_at p T) None) ≡ cond b (entry_hop_at p W) (entry_hop_at p T)
    by_test true e = first_none (entry_hop_at p W)
    by_test false e = ap (λ o. first o (entry_hop_at p T)) (none_elsewhere t p W w e)

pub replaced_placed : (t : Prefix → Bool) (T W : Entries) → Placed T → AllByRecursion IsPrefix (keys_of W) → Placed (replaced t T W)
replaced_placed t T W s a = in_order_placed (other_part t T ++ W) (all_both IsPrefix (other_part t T) W (part_placed (λ e. not (t e.0)) T s).0 a)

-- the changes of a replaced part are those of the table
pub part_changes : (t : Prefix → Bool) (T W : Entries) → Placed T → AreEntries W → AllByRecursion (λ q. t q ≡ true) (keys_of W) → between (part t T) W ≡ between T (replaced t T W)
part_changes t T W s a w =
    sym (alike_changes (part t T) W T (replaced t T W) (placed_are (part t T) (part_placed (λ e. t e.0) T s)) a (placed_are T s) (placed_are (replaced t T W) (replaced_placed t T W s a.0))
    (λ p. ap (change_at p (entry_hop_at p T)) (hop_in_replaced t p T W s a w) ∙ (by_test p (t p) refl ∙ ap (λ o. change_at p o (entry_hop_at p W)) (sym (hop_in_part t p T s)))))
  where
    by_test : (p : Prefix) (b : Bool) → t p ≡ b → change_at p (entry_hop_at p T) (cond b (entry_hop_at p W) (entry_hop_at p T)) ≡ change_at p (cond b (entry_hop_at p T) None) (entry_hop_at p W)
    by_test p true e = refl
    by_test p false e = no_change p (entry_hop_at p T) ∙ sym (ap (change_at p None) (none_elsewhere t p W w e))

-- and back
pub part_changes_back : (t : Prefix → Bool) (T W : Entries) → Placed T → AreEntries W → AllByRecursion (λ q. t q ≡ true) (keys_of W) → between W (part t T) ≡ between (replaced t T W) T
part_changes_back t T W s a w =
    sym (alike_changes W (part t T) (replaced t T W) T a (placed_are (part t T) (part_placed (λ e. t e.0) T s)) (placed_are (replaced t T W) (replaced_placed t T W s a.0)) (placed_are T s)
    (λ p. ap (λ o. change_at p o (entry_hop_at p T)) (hop_in_replaced t p T W s a w) ∙ (by_test p (t p) refl ∙ ap (change_at p (entry_hop_at p W)) (sym (hop_in_part t p T s)))))
  where
    by_test : (p : Prefix) (b : Bool) → t p ≡ b → change_at p (cond b (entry_hop_at p W) (entry_hop_at p T)) (entry_hop_at p T) ≡ change_at p (entry_hop_at p W) (cond b (entry_hop_at p T) None)
    by_test p true e = refl
    by_test p false e = no_change p (entry_hop_at p T) ∙ sym (ap (λ o. change_at p o None) (none_elsewhere t p W w e))

-- ---- between tables in order

no_changes : (ps : List Prefix) (T : Entries) → changes_at ps T T ≡ []
no_changes [] T = refl
no_changes (p ∷ ps) T = ap (λ cs. cs ++ changes_at ps T T) (no_change p (entry_hop_at p T)) ∙ no_changes ps T

-- a table needs no change to be itself
pub none_between : (T : Entries) → between T T ≡ []
unfolding between
none_between T = no_changes (keys_of (in_order (T ++ T))) T

-- in order, the changes make the second of the first
pub made_placed : (T N : Entries) → Placed T → Placed N → after_changes (between T N) T ≡ Some N
made_placed T N t n =
    ap (after_changes (between T N)) (sym (in_order_again T t.1)) ∙ (made T N (placed_are T t) (placed_are N n) ∙ ap Some (in_order_again N n.1))
