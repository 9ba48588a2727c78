-- The changes as they are told, in either order.
use Rattle.std.proofs.Common.{◌≡◌, ℕ, zero, suc, List, [], ◌∷◌, ◌++◌, Bool, true, false, cond, Some, length, map, refl, sym, ap, subst, ◌∙◌, append-nil, arith}
use Rattle.std.specs.Prelude.{◌&&◌, nat_eq}
use Rattle.std.specs.List.{AllByRecursion, filter}
use Rattle.std.specs.Map.{keys_of}
use Rattle.std.proofs.lemmas.List.Sorted.{length_permutation}
use Rattle.table_model.specs.Width.{width}
use Rattle.table_model.specs.Address.{Prefix, IsPrefix, same_family}
use Rattle.table_model.specs.declared.family.Family.{Family}
use Rattle.table_model.specs.declared.family.Family.TheVariants.{V4, V6}
use Rattle.table_model.specs.Table.{Alike}
use Rattle.table_model.specs.Entries.{AlikeInBoth, Entries, in_order, of_family}
use Rattle.table_model.specs.Changes.{Change, Add, Replace, Remove, after_changes}
use Rattle.table_model.proofs.Sums.{in_order_again}
use Rattle.kept_model.specs.Between.{AreEntries, between, place_of}
use Rattle.kept_model.proofs.Alike.{all_between, placed_are}
use Rattle.kept_model.proofs.Held.{Placed, all_folded, in_order_placed}
use Rattle.kept_model.proofs.Reordered.{between_in_order}
use Rattle.kept_model.proofs.Sums.{made}
use Rattle.kept_model.specs.Steady.{AnswerSteadily, has_length, in_steady_order, longest_first, removes, sets, shortest_first, steady_of}
use Rattle.kept_model.proofs.Goes.{answer_steadily, goes_between, goes_sum, goes_to, same_changes, steady}
use Rattle.kept_model.proofs.Turns.{all_steady}
use Rattle.kept_model.proofs.Families.{AllOf, between_both, placed_both, table_of as all_of_table}
use Rattle.cert_model.specs.Rows.{CertRow}
use Rattle.moves_model.specs.Rows.{near_in, near_rows}
use Rattle.moves_model.specs.Shortest.{AreProvedShortest, AreShortest}
use Rattle.moves_model.proofs.Whole.{are_shortest, near_entries, near_shortest}
use Rattle.moves_model.specs.Nearest.{nearest}
use Rattle.moves_model.specs.Both.{AreShortestInBoth, both_changes, family_changes, family_table, told_in}
use Rattle.moves_model.proofs.Both.{shortest_in_both}
use Rattle.moves_model.proofs.Parts.{parts, table_all_of, table_placed}
use Rattle.moves_model.proofs.Sides.{AreAt}

-- ---- what is told of one family

told_all : (P : Change → Type 0) (steady : Bool) (cs : List Change) → AllByRecursion P cs → AllByRecursion P (told_in steady cs)
told_all P false cs a = a
told_all P true cs a = all_steady P cs a

module _ (T N : Entries) (t : AreEntries T) (n : AreEntries N) where
  told_makes : (steady : Bool) → after_changes (told_in steady (between T N)) (in_order T) ≡ Some (in_order N)
  told_makes false = made T N t n
  told_makes true = (steady T N t n).sum

  told_length : (steady : Bool) → length (told_in steady (between T N)) ≡ length (between T N)
  told_length false = refl
  told_length true = length_permutation (between T N) (in_steady_order (between T N)) (same_changes (between T N) (all_between IsPrefix T N t.0 n.0))

  one_table : (A : Entries) → after_changes (between T N) (in_order T) ≡ Some A → A ≡ in_order N
  one_table A m = let i : Some A ≡ Some (in_order N) = sym m ∙ made T N t n in cc

  pub told_shortest : (f : Family) (R : Entries) (steady : Bool) → AreShortest f R T (between T N) → AreShortest f R T (told_in steady (between T N))
  told_shortest f R steady s = record {
    after = in_order N;
    makes = told_makes steady;
    alike = subst (λ (A : Entries). Alike (width f) (of_family f R) (of_family f A)) (one_table s.after s.makes) s.alike;
    fewest = λ U e. omega (arith, told_length steady, s.fewest U e);
  }

  pub told_proved : (f : Family) (R : Entries) (rows : List CertRow) (steady : Bool) → AreProvedShortest f R T (between T N) rows → AreProvedShortest f R T (told_in steady (between T N)) rows
  told_proved f R rows steady s = record {
    old_once = s.old_once;
    routes_once = s.routes_once;
    after = in_order N;
    makes = told_makes steady;
    alike = subst (λ (A : Entries). Alike (width f) (of_family f R) (of_family f A)) (one_table s.after s.makes) s.alike;
    regions = s.regions;
    bound = s.bound;
    parts = s.parts;
    right = s.right;
    few = omega (arith, told_length steady, s.few);
  }

-- ---- the changes to the nearest table of a family

both_hold : (P Q : Prefix → Type 0) (ps : List Prefix) → AllByRecursion P ps → AllByRecursion Q ps → AllByRecursion (λ p. P p × Q p) ps
both_hold P Q [] a b = tt
both_hold P Q (p ∷ ps) a b = ((a.0, b.0), both_hold P Q ps a.1 b.1)

of_places : (P : Prefix → Type 0) (cs : List Change) → AllByRecursion P (map place_of cs) → AllByRecursion (λ c. P (place_of c)) cs
of_places P [] a = tt
of_places P (c ∷ cs) a = (a.0, of_places P cs a.1)

module _ (f : Family) (R T : Entries) (t : AllByRecursion IsPrefix (keys_of T)) where
  abbrev own_table : Entries
  own_table = family_table f T

  abbrev near_own : Entries
  near_own = near_in f (family_table f R) own_table

  own_entries_are : AreEntries own_table
  own_entries_are = placed_are own_table (table_placed f T t)

  near_are : AreEntries near_own
  near_are = near_entries f (family_table f R) own_table own_entries_are (table_all_of f T)

  near_all_of : AllOf f (keys_of near_own)
  near_all_of = all_of_table f (nearest (width f) (of_family f (family_table f R)) (of_family f own_table))

  pub told_at : (steady : Bool) → AreAt f (told_in steady (family_changes f R T))
  told_at steady =
      told_all (λ c. IsPrefix (place_of c) × ((place_of c).family ≡ f)) steady (family_changes f R T)
      (of_places (λ p. IsPrefix p × (p.family ≡ f)) (family_changes f R T)
      (all_between (λ p. IsPrefix p × (p.family ≡ f)) own_table near_own (both_hold IsPrefix (λ p. p.family ≡ f) (keys_of own_table) own_entries_are.0 (table_all_of f T)) (both_hold IsPrefix (λ p. p.family ≡ f) (keys_of near_own) near_are.0 near_all_of)))

  pub own_proved : (steady : Bool) → AllByRecursion IsPrefix (keys_of R) → AreProvedShortest f (family_table f R) own_table (told_in steady (family_changes f R T)) (near_rows f (family_table f R) own_table)
  own_proved steady r =
      told_proved own_table near_own own_entries_are near_are f (family_table f R) _ steady
      (near_shortest f (family_table f R) own_table own_entries_are (table_all_of f T) (placed_are (family_table f R) (table_placed f R r)).1)

  pub own_shortest : (steady : Bool) → AllByRecursion IsPrefix (keys_of R) → AreShortest f (family_table f R) own_table (told_in steady (family_changes f R T))
  own_shortest steady r = are_shortest f (family_table f R) own_table (told_in steady (family_changes f R T)) _ (own_proved steady r)

  -- the table that the family's becomes
  abbrev pub becomes : Entries
  becomes = in_order near_own

  pub becomes_placed : Placed becomes
  becomes_placed = in_order_placed near_own near_are.0

  pub becomes_all_of : AllOf f (keys_of becomes)
  becomes_all_of = all_folded (λ p. p.family ≡ f) near_own [] near_all_of tt

  pub changes_to : family_changes f R T ≡ between own_table becomes
  changes_to = sym (between_in_order own_table near_own own_entries_are near_are) ∙ ap (λ (A : Entries). between A becomes) (in_order_again own_table (table_placed f T t).1)

-- ---- steady order of both families is that of each, one after the other

longest_same : (test : ℕ → Change → Bool) (cs ds : List Change) (n : ℕ) → ((k : ℕ) → filter (test k) cs ≡ filter (test k) ds) → longest_first test n cs ≡ longest_first test n ds
longest_same test cs ds zero same = same 0
longest_same test cs ds (suc n) same = ap (λ es. es ++ longest_first test n cs) (same (suc n)) ∙ ap (λ es. filter (test (suc n)) ds ++ es) (longest_same test cs ds n same)

shortest_same : (test : ℕ → Change → Bool) (cs ds : List Change) (n : ℕ) → ((k : ℕ) → filter (test k) cs ≡ filter (test k) ds) → shortest_first test n cs ≡ shortest_first test n ds
shortest_same test cs ds zero same = same 0
shortest_same test cs ds (suc n) same = ap (λ es. es ++ filter (test (suc n)) cs) (shortest_same test cs ds n same) ∙ ap (λ es. shortest_first test n ds ++ es) (same (suc n))

steady_same : (f : Family) (cs ds : List Change) → ((k : ℕ) → filter (sets f k) cs ≡ filter (sets f k) ds) → ((k : ℕ) → filter (removes f k) cs ≡ filter (removes f k) ds) → steady_of f cs ≡ steady_of f ds
unfolding steady_of
steady_same f cs ds set removed =
    ap (λ es. es ++ shortest_first (removes f) (width f) cs) (longest_same (sets f) cs ds (width f) set) ∙ ap (λ es. longest_first (sets f) (width f) ds ++ es) (shortest_same (removes f) cs ds (width f) removed)

abbrev NonePass : (Change → Bool) → List Change → Type 0
NonePass test cs = AllByRecursion (λ c. test c ≡ false) cs

only_high : (test : Change → Bool) (xs ys : List Change) → NonePass test xs → filter test (xs ++ ys) ≡ filter test ys
only_high test [] ys a = refl
only_high test (x ∷ xs) ys a = ap (λ b. cond b (x ∷ filter test (xs ++ ys)) (filter test (xs ++ ys))) a.0 ∙ only_high test xs ys a.1

only_low : (test : Change → Bool) (xs ys : List Change) → NonePass test ys → filter test (xs ++ ys) ≡ filter test xs
only_low test [] ys a = ap (filter test) (sym (append-nil ys)) ∙ only_high test ys [] a
only_low test (x ∷ xs) ys a = ap (λ cs. cond (test x) (x ∷ cs) cs) (only_low test xs ys a)

other_length : (f : Family) (n : ℕ) (p : Prefix) → same_family f p.family ≡ false → has_length f n p ≡ false
other_length f n p e = ap (λ b. b && nat_eq (length p.bits) n) e

none_set : (f : Family) (n : ℕ) (cs : List Change) → AllByRecursion (λ c. same_family f (place_of c).family ≡ false) cs → NonePass (sets f n) cs
none_set f n [] a = tt
none_set f n (Add p h ∷ cs) a = (other_length f n p a.0, none_set f n cs a.1)
none_set f n (Replace p h ∷ cs) a = (other_length f n p a.0, none_set f n cs a.1)
none_set f n (Remove p ∷ cs) a = (refl, none_set f n cs a.1)

none_removed : (f : Family) (n : ℕ) (cs : List Change) → AllByRecursion (λ c. same_family f (place_of c).family ≡ false) cs → NonePass (removes f n) cs
none_removed f n [] a = tt
none_removed f n (Add p h ∷ cs) a = (refl, none_removed f n cs a.1)
none_removed f n (Replace p h ∷ cs) a = (refl, none_removed f n cs a.1)
none_removed f n (Remove p ∷ cs) a = (other_length f n p a.0, none_removed f n cs a.1)

others : (f g : Family) (cs : List Change) → AreAt g cs → same_family f g ≡ false → AllByRecursion (λ c. same_family f (place_of c).family ≡ false) cs
others f g [] a n = tt
others f g (c ∷ cs) a n = (ap (same_family f) a.0.1 ∙ n, others f g cs a.1 n)

none_of : (f g : Family) (cs : List Change) → AreAt g cs → same_family f g ≡ false → steady_of f cs ≡ steady_of f []
none_of f g cs a n =
    let o = others f g cs a n in
    steady_same f cs [] (λ k. ap (filter (sets f k)) (sym (append-nil cs)) ∙ only_high (sets f k) cs [] (none_set f k cs o)) (λ k. ap (filter (removes f k)) (sym (append-nil cs)) ∙ only_high (removes f k) cs [] (none_removed f k cs o))

nothing : (f : Family) → steady_of f [] ≡ []
unfolding steady_of
nothing V4 = refl
nothing V6 = refl

pub told_parts : (steady : Bool) (xs ys : List Change) → AreAt V4 xs → AreAt V6 ys → told_in steady (xs ++ ys) ≡ told_in steady xs ++ told_in steady ys
unfolding in_steady_order
told_parts false xs ys x y = refl
told_parts true xs ys x y =
    let other-ys = others V4 V6 ys y refl in
    let other-xs = others V6 V4 xs x refl in
    let low : steady_of V4 (xs ++ ys) ≡ steady_of V4 xs = steady_same V4 (xs ++ ys) xs (λ k. only_low (sets V4 k) xs ys (none_set V4 k ys other-ys)) (λ k. only_low (removes V4 k) xs ys (none_removed V4 k ys other-ys)) in
    let high : steady_of V6 (xs ++ ys) ≡ steady_of V6 ys = steady_same V6 (xs ++ ys) ys (λ k. only_high (sets V6 k) xs ys (none_set V6 k xs other-xs)) (λ k. only_high (removes V6 k) xs ys (none_removed V6 k xs other-xs)) in
    let one : steady_of V4 xs ++ steady_of V6 xs ≡ steady_of V4 xs = ap (λ es. steady_of V4 xs ++ es) (none_of V6 V4 xs x refl ∙ nothing V6) ∙ append-nil (steady_of V4 xs) in
    let two : steady_of V4 ys ++ steady_of V6 ys ≡ steady_of V6 ys = ap (λ es. es ++ steady_of V6 ys) (none_of V4 V6 ys y refl ∙ nothing V4) in
    ap (λ es. es ++ steady_of V6 (xs ++ ys)) low ∙ (ap (λ es. steady_of V4 xs ++ es) high ∙ (ap (λ es. es ++ steady_of V6 ys) (sym one) ∙ ap (λ es. (steady_of V4 xs ++ steady_of V6 xs) ++ es) (sym two)))

-- ---- both families

module _ (R T : Entries) (r : AllByRecursion IsPrefix (keys_of R)) (t : AllByRecursion IsPrefix (keys_of T)) where
  pub told_both : (steady : Bool) → told_in steady (both_changes R T) ≡ told_in steady (family_changes V4 R T) ++ told_in steady (family_changes V6 R T)
  told_both steady = told_parts steady (family_changes V4 R T) (family_changes V6 R T) (told_at V4 R T t false) (told_at V6 R T t false)

  pub shortest_both : (steady : Bool) → AreShortestInBoth (in_order R) (in_order T) (told_in steady (both_changes R T))
  shortest_both steady =
      subst (AreShortestInBoth (in_order R) (in_order T)) (sym (told_both steady))
      (shortest_in_both R T r t (told_in steady (family_changes V4 R T)) (told_in steady (family_changes V6 R T)) (told_at V4 R T t steady) (told_at V6 R T t steady) (own_shortest V4 R T t steady r) (own_shortest V6 R T t steady r))

  abbrev before : Entries
  before = family_table V4 T ++ family_table V6 T

  abbrev after : Entries
  after = becomes V4 R T t ++ becomes V6 R T t

  before_placed : Placed before
  before_placed = placed_both (family_table V4 T) (family_table V6 T) (table_placed V4 T t) (table_placed V6 T t) (table_all_of V4 T) (table_all_of V6 T)

  after_placed : Placed after
  after_placed = placed_both (becomes V4 R T t) (becomes V6 R T t) (becomes_placed V4 R T t) (becomes_placed V6 R T t) (becomes_all_of V4 R T t) (becomes_all_of V6 R T t)

  both_between : both_changes R T ≡ between before after
  both_between =
      let A = family_table V4 T in
      let B = family_table V6 T in
      let A' = becomes V4 R T t in
      let B' = becomes V6 R T t in
      ap (λ cs. cs ++ family_changes V6 R T) (changes_to V4 R T t)
      ∙ (ap (λ cs. between A A' ++ cs) (changes_to V6 R T t)
      ∙ sym (between_both A B A' B' (table_placed V4 T t) (table_placed V6 T t) (becomes_placed V4 R T t) (becomes_placed V6 R T t) (table_all_of V4 T) (table_all_of V6 T) (becomes_all_of V4 R T t) (becomes_all_of V6 R T t)))

  -- in steady order no packet goes astray
  pub steadily_both : AnswerSteadily (told_in true (both_changes R T)) (in_order T) (in_order T) (in_order R)
  steadily_both =
      let cs = in_steady_order (between before after) in
      let first : in_order before ≡ in_order T = in_order_again before before_placed.1 ∙ sym (parts T t) in
      let go = goes_between before after (placed_are before before_placed) (placed_are after after_placed) in
      let s = shortest_both true in
      let same : Some s.after ≡ Some (in_order after) =
      sym s.makes ∙ (ap (λ ds. after_changes (in_steady_order ds) (in_order T)) both_between ∙ (ap (after_changes cs) (sym first) ∙ goes_sum cs (in_order before) (in_order after) (in_order after) go)) in
      let end : s.after ≡ in_order after = cc in
      let alike : AlikeInBoth (in_order R) (in_order after) = subst (λ (M : Entries). AlikeInBoth (in_order R) M) end s.alike in
      subst (λ ds. AnswerSteadily (in_steady_order ds) (in_order T) (in_order T) (in_order R)) (sym both_between)
      (subst (λ (M : Entries). AnswerSteadily cs M M (in_order R)) first (answer_steadily cs (in_order before) (in_order after) (in_order before) (in_order R) (goes_to cs (in_order before) (in_order after) (in_order after) (in_order R) alike go) (λ a l. refl)))
