-- There are as many changes between two tables as prefixes at which they differ.
use Rattle.std.proofs.Common.{◌≡◌, ℕ, ◌+◌, List, [], ◌∷◌, ◌++◌, Bool, true, false, not, cond, Option, Some, None, length, nat_eq, refl, sym, ap, ◌∙◌, arith, length-append}
use Rattle.std.specs.Prelude.{fold, is_none, is_some}
use Rattle.std.specs.List.{AllByRecursion, IsDistinct}
use Rattle.std.specs.List.Sorted.{IsStrictlySortedBy}
use Rattle.std.specs.Map.{keys_of}
use Rattle.std.specs.BTreeMap.{insert_entry}
use Rattle.std.specs.Ordering.{match_ordering, ordering_reverse}
use Rattle.std.specs.declared.cmp.Ordering.{Ordering}
use Rattle.std.specs.declared.cmp.Ordering.TheVariants.{Less, Equal, Greater}
use Rattle.std.proofs.lemmas.List.Sums.{fold-append}
use Rattle.table_model.specs.Address.{Prefix, IsPrefix, same_family, same_prefix}
use Rattle.table_model.specs.Order.{prefix_cmp}
use Rattle.table_model.specs.declared.family.Family.{Family}
use Rattle.table_model.proofs.Ordered.{prefix_total, equal_are_same}
use Rattle.table_model.proofs.SamePrefix.{same_family_itself}
use Rattle.table_model.specs.Entries.{Entries, with_entry, in_order, of_family}
use Rattle.table_model.specs.Changes.{Replace, is_held}
use Rattle.table_model.proofs.Sums.{all_placed, sorted_placed, in_order_sorted}
use Rattle.table_model.proofs.Cut.{entry}
use Rattle.table_model.specs.Regions.{entry_at}
use Rattle.route_model.proofs.Keyed.{lookup-put, lookup-below, not_same_greater}
use Rattle.route_model.proofs.Places.{prefix_key}
use Rattle.kept_model.specs.Between.{AreEntries, entry_hop_at, change_at, changes_at, between}
use Rattle.kept_model.proofs.Held.{all_folded, hop_in_order}
use Rattle.kept_model.proofs.Patches.{family_hop}
use Rattle.moves_model.specs.Dist.{differs, how_many, distance}
use Rattle.moves_model.proofs.Counts.{tally}

length_change : (p : Prefix) (o u : Option ℕ) → length (change_at p o u) ≡ tally o u
length_change p None None = refl
length_change p None (Some h) = refl
length_change p (Some g) None = refl
length_change p (Some g) (Some h) = by_test (nat_eq g h)
  where
    by_test : (b : Bool) → length (cond b [] (Replace p h ∷ [])) ≡ cond (not b) 1 0
    by_test true = refl
    by_test false = refl

less_back : (p q : Prefix) → prefix_cmp p q ≡ Greater → prefix_cmp q p ≡ Less
less_back p q e = prefix_total.antisymm q p ∙ ap ordering_reverse e

module _ (old new : Entries) where
  -- 1 where the tables differ at p
  abbrev at : Prefix → ℕ
  at p = tally (entry_hop_at p old) (entry_hop_at p new)

  -- at how many of the prefixes they differ
  abbrev total : List Prefix → ℕ
  total [] = 0
  total (p ∷ ps) = at p + total ps

  length_all : (ps : List Prefix) → length (changes_at ps old new) ≡ total ps
  length_all [] = refl
  length_all (p ∷ ps) = omega (arith, length-append (change_at p (entry_hop_at p old) (entry_hop_at p new)) (changes_at ps old new), length_change p (entry_hop_at p old) (entry_hop_at p new), length_all ps)

  -- an entry put in its place: one prefix more where it wasn't held
  news : Prefix → Entries → ℕ
  news p T = cond (is_held p T) 0 (at p)

  placed : (T : Entries) (p : Prefix) (h : ℕ) → IsPrefix p → AllByRecursion IsPrefix (keys_of T) → IsStrictlySortedBy prefix_cmp (keys_of T) → total (keys_of (insert_entry prefix_cmp T p h)) ≡ total (keys_of T) + cond (is_held p T) 0 (at p)
  unfolding IsStrictlySortedBy
  placed [] p h x a s = omega arith
  placed (e ∷ T) p h x a s = by_order (prefix_cmp p e.0) refl (placed T p h x a.1 s.1)
    where
      by_order : (o : Ordering) → prefix_cmp p e.0 ≡ o → total (keys_of (insert_entry prefix_cmp T p h)) ≡ total (keys_of T) + cond (is_held p T) 0 (at p)
          → total (keys_of (match_ordering o ((p, h) ∷ e ∷ T) ((e.0, h) ∷ T) (e ∷ insert_entry prefix_cmp T p h))) ≡ total (keys_of (e ∷ T)) + cond (is_held p (e ∷ T)) 0 (at p)
      by_order Less c ih =
          let n : entry_hop_at p (e ∷ T) ≡ None = lookup-below prefix_key p (e ∷ T) (c, all_less T s.0) in
          let z : cond (is_held p (e ∷ T)) 0 (at p) ≡ at p = ap (λ o. cond (is_some o) 0 (at p)) n in
          omega (arith, z)
        where
          all_less : (T : Entries) → AllByRecursion (λ q. prefix_cmp e.0 q ≡ Less) (keys_of T) → AllByRecursion (λ q. prefix_cmp p q ≡ Less) (keys_of T)
          all_less [] b = tt
          all_less (f ∷ T) b = (prefix_total.trans p e.0 f.0 c b.0, all_less T b.1)
      by_order Equal c ih =
          let same : same_prefix p e.0 ≡ true = ap (λ q. same_prefix q e.0) (equal_are_same p e.0 x a.0 c) ∙ prefix_key.itself e.0 in
          let z : cond (is_held p (e ∷ T)) 0 (at p) ≡ 0 = ap (λ b. cond (is_some (cond b (Some e.1) (entry_hop_at p T))) 0 (at p)) same in
          omega (arith, z)
      by_order Greater c ih =
          let other : same_prefix p e.0 ≡ false = not_same_greater prefix_key e.0 p (less_back p e.0 c) in
          let z : cond (is_held p (e ∷ T)) 0 (at p) ≡ cond (is_held p T) 0 (at p) = ap (λ b. cond (is_some (cond b (Some e.1) (entry_hop_at p T))) 0 (at p)) other in
          omega (arith, z, ih)

  -- those of L that T doesn't hold
  abbrev all_news : Entries → Entries → ℕ
  all_news [] T = 0
  all_news (e ∷ L) T = cond (is_held e.0 T) 0 (at e.0) + all_news L T

  not_held : (e : Prefix × ℕ) (L T : Entries) → IsPrefix e.0 → AllByRecursion IsPrefix (keys_of T) → AllByRecursion (λ q. same_prefix e.0 q ≡ false) (keys_of L) → all_news L (with_entry T e) ≡ all_news L T
  not_held e [] T x a d = refl
  not_held e (f ∷ L) T x a d =
      let turned : same_prefix f.0 e.0 ≡ false = turn (same_prefix f.0 e.0) refl in
      let h : entry_hop_at f.0 (with_entry T e) ≡ entry_hop_at f.0 T = lookup-put prefix_key f.0 T e.0 e.1 a x ∙ ap (λ b. cond b (Some e.1) (entry_hop_at f.0 T)) turned in
      let z : cond (is_held f.0 (with_entry T e)) 0 (at f.0) ≡ cond (is_held f.0 T) 0 (at f.0) = ap (λ o. cond (is_some o) 0 (at f.0)) h in
      omega (arith, z, not_held e L T x a d.1)
    where
      turn : (b : Bool) → same_prefix f.0 e.0 ≡ b → same_prefix f.0 e.0 ≡ false
      turn false t = t
      turn true t = let y : same_prefix e.0 e.0 ≡ false = ap (same_prefix e.0) (sym (prefix_key.same f.0 e.0 t)) ∙ d.0 in let w : same_prefix e.0 e.0 ≡ true = prefix_key.itself e.0 in absurd cc

  folded : (L T : Entries) → AllByRecursion IsPrefix (keys_of L) → IsDistinct same_prefix (keys_of L) → AllByRecursion IsPrefix (keys_of T) → IsStrictlySortedBy prefix_cmp (keys_of T)
      → total (keys_of (fold with_entry T L)) ≡ total (keys_of T) + all_news L T
  unfolding IsDistinct
  folded [] T a d b s = omega arith
  folded (e ∷ L) T a d b s =
      omega (arith, folded L (with_entry T e) a.1 d.1 (all_placed IsPrefix T e.0 e.1 b a.0) (sorted_placed T e.0 e.1 s), placed T e.0 e.1 a.0 b s, not_held e L T a.0 b d.0)

  all_held : (L : Entries) → AreEntries old → all_news L (in_order old) ≡ all_news L old
  all_held [] a = refl
  all_held (e ∷ L) a = let z : cond (is_held e.0 (in_order old)) 0 (at e.0) ≡ cond (is_held e.0 old) 0 (at e.0) = ap (λ o. cond (is_some o) 0 (at e.0)) (hop_in_order e.0 old a) in omega (arith, z, all_held L a)

  total_between : AreEntries old → AreEntries new → total (keys_of (in_order (old ++ new))) ≡ all_news old [] + all_news new old
  unfolding IsStrictlySortedBy
  total_between a b =
      omega (
        arith,
        ap (λ (L : Entries). total (keys_of L)) (fold-append with_entry [] old new),
        folded new (in_order old) b.0 b.1 (all_folded IsPrefix old [] a.0 tt) (in_order_sorted old),
        folded old [] a.0 a.1 tt tt,
        all_held new a,
      )

  pub length_between : AreEntries old → AreEntries new → length (between old new) ≡ all_news old [] + all_news new old
  unfolding between
  length_between a b = length_all (keys_of (in_order (old ++ new))) ∙ total_between a b

-- ---- the same of a family's tables

prefix_of : Family → List Bool → Prefix
prefix_of f q = record { family = f; bits = q }

-- what an entry's prefix holds is its hop
skip : (e : Prefix × ℕ) (L : Entries) (P : Entries) → AllByRecursion (λ q. same_prefix e.0 q ≡ false) (keys_of P) → AllByRecursion (λ (x : Prefix × ℕ). entry_hop_at x.0 L ≡ Some x.1) P → AllByRecursion (λ (x : Prefix × ℕ). entry_hop_at x.0 (e ∷ L) ≡ Some x.1) P
skip e L [] d a = tt
skip e L (x ∷ P) d a = (ap (λ b. cond b (Some e.1) (entry_hop_at x.0 L)) (turn (same_prefix x.0 e.0) refl) ∙ a.0, skip e L P d.1 a.1)
  where
    turn : (b : Bool) → same_prefix x.0 e.0 ≡ b → same_prefix x.0 e.0 ≡ false
    turn false t = t
    turn true t = let y : same_prefix e.0 e.0 ≡ false = ap (same_prefix e.0) (sym (prefix_key.same x.0 e.0 t)) ∙ d.0 in let w : same_prefix e.0 e.0 ≡ true = prefix_key.itself e.0 in absurd cc

own_hops : (L : Entries) → IsDistinct same_prefix (keys_of L) → AllByRecursion (λ (x : Prefix × ℕ). entry_hop_at x.0 L ≡ Some x.1) L
unfolding IsDistinct
own_hops [] d = tt
own_hops (e ∷ L) d = (ap (λ b. cond b (Some e.1) (entry_hop_at e.0 L)) (prefix_key.itself e.0), skip e L L d.0 (own_hops L d.1))

module _ (f : Family) (old new : Entries) where
  -- entries of the old table that the new one doesn't hold, or with another hop
  lost : (L : Entries) → AllByRecursion (λ (p : Prefix). p.family ≡ f) (keys_of L) → AllByRecursion (λ (x : Prefix × ℕ). entry_hop_at x.0 old ≡ Some x.1) L
      → all_news old new L [] ≡ how_many (λ e. differs (Some e.hop) (entry_at e.prefix (of_family f new))) (of_family f L)
  lost [] a h = refl
  lost (x ∷ L) a h = one x.0.family x.0.bits x.1 a.0 h.0 (lost L a.1 h.1)
    where
      one : (g : Family) (q : List Bool) (k : ℕ) → g ≡ f → entry_hop_at (record { family = g; bits = q }) old ≡ Some k
          → all_news old new L [] ≡ how_many (λ e. differs (Some e.hop) (entry_at e.prefix (of_family f new))) (of_family f L)
          → tally (entry_hop_at (record { family = g; bits = q }) old) (entry_hop_at (record { family = g; bits = q }) new) + all_news old new L []
          ≡ how_many (λ e. differs (Some e.hop) (entry_at e.prefix (of_family f new))) (cond (same_family f g) (entry q k ∷ of_family f L) (of_family f L))
      one g q k m r ih =
          let p : Prefix = record { family = g; bits = q } in
          let s : same_family f g ≡ true = ap (same_family f) m ∙ same_family_itself f in
          let y : entry_hop_at p new ≡ entry_at q (of_family f new) = ap (λ (z : Family). let v : Prefix = record { family = z; bits = q } in entry_hop_at v new) m ∙ sym (family_hop f q new) in
          let t : tally (entry_hop_at p old) (entry_hop_at p new) ≡ tally (Some k) (entry_at q (of_family f new)) = ap (λ o. tally o (entry_hop_at p new)) r ∙ ap (tally (Some k)) y in
          let u : how_many (λ e. differs (Some e.hop) (entry_at e.prefix (of_family f new))) (cond (same_family f g) (entry q k ∷ of_family f L) (of_family f L))
          ≡ tally (Some k) (entry_at q (of_family f new)) + how_many (λ e. differs (Some e.hop) (entry_at e.prefix (of_family f new))) (of_family f L) =
          ap (λ b. how_many (λ e. differs (Some e.hop) (entry_at e.prefix (of_family f new))) (cond b (entry q k ∷ of_family f L) (of_family f L))) s in
          omega (arith, t, u, ih)

  -- entries of the new table at whose prefix the old one has none
  gained : (L : Entries) → AllByRecursion (λ (p : Prefix). p.family ≡ f) (keys_of L) → AllByRecursion (λ (x : Prefix × ℕ). entry_hop_at x.0 new ≡ Some x.1) L
      → all_news old new L old ≡ how_many (λ e. is_none (entry_at e.prefix (of_family f old))) (of_family f L)
  gained [] a h = refl
  gained (x ∷ L) a h = one x.0.family x.0.bits x.1 a.0 h.0 (gained L a.1 h.1)
    where
      by_hop : (o : Option ℕ) (k : ℕ) → cond (is_some o) 0 (tally o (Some k)) ≡ cond (is_none o) 1 0
      by_hop None k = refl
      by_hop (Some g) k = refl

      one : (g : Family) (q : List Bool) (k : ℕ) → g ≡ f → entry_hop_at (record { family = g; bits = q }) new ≡ Some k
          → all_news old new L old ≡ how_many (λ e. is_none (entry_at e.prefix (of_family f old))) (of_family f L)
          → cond (is_held (record { family = g; bits = q }) old) 0 (tally (entry_hop_at (record { family = g; bits = q }) old) (entry_hop_at (record { family = g; bits = q }) new)) + all_news old new L old
          ≡ how_many (λ e. is_none (entry_at e.prefix (of_family f old))) (cond (same_family f g) (entry q k ∷ of_family f L) (of_family f L))
      one g q k m r ih =
          let p : Prefix = record { family = g; bits = q } in
          let s : same_family f g ≡ true = ap (same_family f) m ∙ same_family_itself f in
          let y : entry_hop_at p old ≡ entry_at q (of_family f old) = ap (λ (z : Family). let v : Prefix = record { family = z; bits = q } in entry_hop_at v old) m ∙ sym (family_hop f q old) in
          let t : cond (is_held p old) 0 (tally (entry_hop_at p old) (entry_hop_at p new)) ≡ cond (is_none (entry_at q (of_family f old))) 1 0 =
          ap (λ o. cond (is_held p old) 0 (tally (entry_hop_at p old) o)) r ∙ (ap (λ o. cond (is_some o) 0 (tally o (Some k))) y ∙ by_hop (entry_at q (of_family f old)) k) in
          let u : how_many (λ e. is_none (entry_at e.prefix (of_family f old))) (cond (same_family f g) (entry q k ∷ of_family f L) (of_family f L))
          ≡ cond (is_none (entry_at q (of_family f old))) 1 0 + how_many (λ e. is_none (entry_at e.prefix (of_family f old))) (of_family f L) =
          ap (λ b. how_many (λ e. is_none (entry_at e.prefix (of_family f old))) (cond b (entry q k ∷ of_family f L) (of_family f L))) s in
          omega (arith, t, u, ih)

  pub changes_dist : AreEntries old → AreEntries new → AllByRecursion (λ (p : Prefix). p.family ≡ f) (keys_of old) → AllByRecursion (λ (p : Prefix). p.family ≡ f) (keys_of new)
      → length (between old new) ≡ distance (of_family f old) (of_family f new)
  changes_dist a b c d = omega (arith, length_between old new a b, lost old c (own_hops old a.1), gained new d (own_hops new b.1))
