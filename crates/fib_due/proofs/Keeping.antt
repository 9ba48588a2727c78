-- What the changes of a kept table come to on the way.
use Rattle.std.proofs.Common.{◌≡◌, ℕ, zero, suc, ◌+◌, ◌<◌, ◌≤◌, List, [], ◌∷◌, ◌++◌, Bool, true, false, cond, Option, Some, None, length, refl, sym, ap, subst, ◌∙◌, arith, append_assoc, append-nil}
use Rattle.std.specs.Prelude.{nat_le, not, slice_index_or, if◌then◌else◌}
use Rattle.std.specs.List.{AllByRecursion, filter}
use Rattle.std.specs.List.Sorted.{IsNonDecreasingBy}
use Rattle.std.specs.Option.{option_and_then}
use Rattle.std.proofs.lemmas.Bool.{le-leb, lt-leb}
use Rattle.table_model.specs.Address.{Address, Prefix, IsPrefix}
use Rattle.table_model.specs.Order.{prefix_cmp}
use Rattle.table_model.specs.Halves.{is_within}
use Rattle.table_model.specs.Width.{width}
use Rattle.table_model.specs.Entries.{Entries, AlikeInBoth, of_family}
use Rattle.table_model.specs.Changes.{Change, sum_of}
use Rattle.table_model.specs.Table.{Alike}
use Rattle.table_model.specs.Regions.{SameOutside}
use Rattle.table_model.specs.Both.{LeastInBoth}
use Rattle.kept_model.specs.Between.{AreEntries, entry_hop_at}
use Rattle.kept_model.proofs.Held.{Placed}
use Rattle.kept_model.specs.Patched.{after_repair, entries_outside, patch_of, region_aggregate}
use Rattle.kept_model.proofs.Patches.{family_table, hop_patched, patched_least, placed_patched}
use Rattle.route_model.specs.Events.{Elem, elem_prefix}
use Rattle.route_model.specs.Choice.{AreCandidates, Candidates, IsElem, after_elem, after_elems, chosen_for}
use Rattle.route_model.proofs.Keyed.{all_filter, lookup-filter, same_entries, sorted_filter}
use Rattle.route_model.proofs.Places.{prefix_key}
use Rattle.kept_model.specs.Feed.{at_event, changes_in, entries_of, hops_after}
use Rattle.kept_model.proofs.Tables.{at_prefix}
use Rattle.kept_model.specs.Kept.{AreNumberedAlong, changed_at, is_due, is_other, kept_at_load, kept_by, repaired_by, snapshot_if}
use Rattle.kept_model.specs.Told.{load_told}
use Rattle.kept_model.proofs.Told.{load_told_stays}
use Rattle.moves_model.specs.Moved.{moved_by, table_by, table_from}
use Rattle.moves_model.specs.Reported.{moves_from, moves_of, told_from, told_of}
use Rattle.moves_model.proofs.Moved.{from_alike, renewed_least}
use Rattle.moves_model.proofs.Reported.{moves_from_stay, moves_step, run_sum, table_from_stays, told_from_stays, told_more, told_step}
use Rattle.kept_model.proofs.FeedAlike.{loaded_alike, snapshot_least}
use Rattle.kept_model.proofs.FeedSums.{snapshot_placed}
use Rattle.kept_model.proofs.FeedStays.{load_stays}
use Rattle.kept_model.proofs.FeedSteps.{numbered_along, numbered_later}
use Rattle.fib_due.specs.Due.{run_changes, kept_of, run_moves}
use Rattle.fib_due.specs.Keeps.{changes_to, entries_besides, has_snapshot}

-- ---- the numbers of events

abbrev pub Numbered : Type 0
Numbered = List (ℕ × Change)

all_both : (P : ℕ × Change → Type 0) (xs ys : Numbered) → AllByRecursion P xs → AllByRecursion P ys → AllByRecursion P (xs ++ ys)
all_both P [] ys a b = b
all_both P (x ∷ xs) ys a b = (a.0, all_both P xs ys a.1 b)

pub all_weaker : (P Q : ℕ × Change → Type 0) (xs : Numbered) → ((c : ℕ × Change) → P c → Q c) → AllByRecursion P xs → AllByRecursion Q xs
all_weaker P Q [] f a = tt
all_weaker P Q (x ∷ xs) f a = (f x a.0, all_weaker P Q xs f a.1)

pub event_is : (P : ℕ × Change → Type 0) (n : ℕ) (cs : List Change) → ((c : Change) → P (n, c)) → AllByRecursion P (at_event n cs)
event_is P n [] f = tt
event_is P n (c ∷ cs) f = (f c, event_is P n cs f)

-- from here on
pub numbers_from : (fewest steady : Bool) (every : ℕ) (hops : List Address) (n : ℕ) (held : Candidates) (T : Entries) (elems : List Elem) → AllByRecursion (λ (c : ℕ × Change). n ≤ c.0) (told_from fewest steady every hops n held T elems)
unfolding told_from
numbers_from fewest steady every hops n held T [] = tt
numbers_from fewest steady every hops n held T (x ∷ elems) =
    let M = table_by fewest every hops n held T x in
    all_both (λ (c : ℕ × Change). n ≤ c.0) (at_event n (told_of fewest steady every hops n held T x)) (told_from fewest steady every hops (n + 1) (after_elem held x) M elems)
    (event_is (λ (c : ℕ × Change). n ≤ c.0) n (told_of fewest steady every hops n held T x) (λ c. omega arith))
    (all_weaker (λ (c : ℕ × Change). n + 1 ≤ c.0) (λ (c : ℕ × Change). n ≤ c.0) (told_from fewest steady every hops (n + 1) (after_elem held x) M elems) (λ c le. omega (arith, le)) (numbers_from fewest steady every hops (n + 1) (after_elem held x) M elems))

-- up to here
pub numbers_to : (fewest steady : Bool) (every : ℕ) (hops : List Address) (n m : ℕ) (held : Candidates) (T : Entries) (elems : List Elem) → n + length elems ≤ m + 1 → AllByRecursion (λ (c : ℕ × Change). c.0 ≤ m) (told_from fewest steady every hops n held T elems)
unfolding told_from
numbers_to fewest steady every hops n m held T [] le = tt
numbers_to fewest steady every hops n m held T (x ∷ elems) le =
    let M = table_by fewest every hops n held T x in
    let here : n ≤ m = omega arith in
    all_both (λ (c : ℕ × Change). c.0 ≤ m) (at_event n (told_of fewest steady every hops n held T x)) (told_from fewest steady every hops (n + 1) (after_elem held x) M elems)
    (event_is (λ (c : ℕ × Change). c.0 ≤ m) n (told_of fewest steady every hops n held T x) (λ c. here))
    (numbers_to fewest steady every hops (n + 1) m (after_elem held x) M elems (omega arith))

-- each is at most those after it
abbrev Rises : Numbered → Type 0
Rises [] = Unit {0}
Rises (c ∷ cs) = AllByRecursion (λ (d : ℕ × Change). c.0 ≤ d.0) cs × Rises cs

all_at : (P : ℕ × Change → Type 0) (cs : Numbered) (j : ℕ) (d : ℕ × Change) → AllByRecursion P cs → j < length cs → P (slice_index_or cs j d)
all_at P [] j d a lt = absurd (omega (arith, lt))
all_at P (c ∷ cs) zero d a lt = a.0
all_at P (c ∷ cs) (suc j) d a lt = all_at P cs j d a.1 (omega (arith, lt))

rises_at : (cs : Numbered) (i j : ℕ) (d : ℕ × Change) → Rises cs → i ≤ j → j < length cs → (slice_index_or cs i d).0 ≤ (slice_index_or cs j d).0
rises_at [] i j d r le lt = absurd (omega (arith, lt))
rises_at (c ∷ cs) zero zero d r le lt = omega arith
rises_at (c ∷ cs) zero (suc j) d r le lt = all_at (λ (e : ℕ × Change). c.0 ≤ e.0) cs j d r.0 (omega (arith, lt))
rises_at (c ∷ cs) (suc i) zero d r le lt = absurd (omega (arith, le))
rises_at (c ∷ cs) (suc i) (suc j) d r le lt = rises_at cs i j d r.1 (omega (arith, le)) (omega (arith, lt))

rises_both : (n : ℕ) (xs ys : Numbered) → Rises xs → Rises ys → AllByRecursion (λ (c : ℕ × Change). c.0 ≤ n) xs → AllByRecursion (λ (c : ℕ × Change). n ≤ c.0) ys → Rises (xs ++ ys)
rises_both n [] ys r s a b = s
rises_both n (x ∷ xs) ys r s a b =
    let le : x.0 ≤ n = a.0 in
    (all_both (λ (c : ℕ × Change). x.0 ≤ c.0) xs ys r.0 (all_weaker (λ (c : ℕ × Change). n ≤ c.0) (λ (c : ℕ × Change). x.0 ≤ c.0) ys (λ c ge. omega (arith, le, ge)) b), rises_both n xs ys r.1 s a.1 b)

event_rises : (n : ℕ) (cs : List Change) → Rises (at_event n cs)
event_rises n [] = tt
event_rises n (c ∷ cs) = (event_is (λ (d : ℕ × Change). n ≤ d.0) n cs (λ d. omega arith), event_rises n cs)

rises_from : (fewest steady : Bool) (every : ℕ) (hops : List Address) (n : ℕ) (held : Candidates) (T : Entries) (elems : List Elem) → Rises (told_from fewest steady every hops n held T elems)
unfolding told_from
rises_from fewest steady every hops n held T [] = tt
rises_from fewest steady every hops n held T (x ∷ elems) =
    let M = table_by fewest every hops n held T x in
    let later = told_from fewest steady every hops (n + 1) (after_elem held x) M elems in
    rises_both n (at_event n (told_of fewest steady every hops n held T x)) later (event_rises n (told_of fewest steady every hops n held T x)) (rises_from fewest steady every hops (n + 1) (after_elem held x) M elems)
    (event_is (λ (c : ℕ × Change). c.0 ≤ n) n (told_of fewest steady every hops n held T x) (λ c. omega arith))
    (all_weaker (λ (c : ℕ × Change). n + 1 ≤ c.0) (λ (c : ℕ × Change). n ≤ c.0) later (λ c le. omega (arith, le)) (numbers_from fewest steady every hops (n + 1) (after_elem held x) M elems))

abbrev is_to : ℕ → ℕ × Change → Bool
is_to m c = nat_le c.0 m

kept_all : (m : ℕ) (cs : Numbered) → AllByRecursion (λ (c : ℕ × Change). c.0 ≤ m) cs → filter (is_to m) cs ≡ cs
kept_all m [] a = refl
kept_all m (c ∷ cs) a = ap (λ b. cond b (c ∷ filter (is_to m) cs) (filter (is_to m) cs)) (le-leb c.0 m a.0) ∙ ap (λ ds. c ∷ ds) (kept_all m cs a.1)

dropped_all : (m : ℕ) (cs : Numbered) → AllByRecursion (λ (c : ℕ × Change). m + 1 ≤ c.0) cs → filter (is_to m) cs ≡ []
dropped_all m [] a = refl
dropped_all m (c ∷ cs) a = let gt : m < c.0 = omega (arith, a.0) in ap (λ b. cond b (c ∷ filter (is_to m) cs) (filter (is_to m) cs)) (lt-leb c.0 m gt) ∙ dropped_all m cs a.1

filter_both : (m : ℕ) (xs ys : Numbered) → filter (is_to m) (xs ++ ys) ≡ filter (is_to m) xs ++ filter (is_to m) ys
filter_both m [] ys = refl
filter_both m (x ∷ xs) ys = by_test (is_to m x) (filter_both m xs ys)
  where
    by_test : (b : Bool) → filter (is_to m) (xs ++ ys) ≡ filter (is_to m) xs ++ filter (is_to m) ys → cond b (x ∷ filter (is_to m) (xs ++ ys)) (filter (is_to m) (xs ++ ys)) ≡ cond b (x ∷ filter (is_to m) xs) (filter (is_to m) xs) ++ filter (is_to m) ys
    by_test true e = ap (λ cs. x ∷ cs) e
    by_test false e = e

-- ---- the table after the events so far

-- the kept table
abbrev pub table_after : Bool → ℕ → List Address → Candidates → List Elem → Entries
table_after fewest every hops held done = table_from fewest every hops 1 held (kept_at_load hops held) done

module _ (fewest steady : Bool) (every : ℕ) (hops : List Address) (held : Candidates) where
  abbrev pub all_changes : List Elem → List (ℕ × Change)
  all_changes elems = load_told steady hops held ++ told_from fewest steady every hops 1 held (kept_at_load hops held) elems

  pub changes_are : (done rest : List Elem) → filter (is_to (length done)) (all_changes (done ++ rest)) ≡ all_changes done
  changes_are done rest =
      let m = length done in
      let T = kept_at_load hops held in
      let front = told_from fewest steady every hops 1 held T done in
      let back = told_from fewest steady every hops (m + 1) (after_elems held done) (table_after fewest every hops held done) rest in
      let later : filter (is_to m) back ≡ [] = dropped_all m back (numbers_from fewest steady every hops (m + 1) (after_elems held done) (table_after fewest every hops held done) rest) in
      ap (λ cs. filter (is_to m) (load_told steady hops held ++ cs)) (told_more fewest steady every hops held T done rest)
      ∙ (filter_both m (load_told steady hops held) (front ++ back)
      ∙ (ap (λ cs. filter (is_to m) (load_told steady hops held) ++ cs) (filter_both m front back ∙ (ap (λ cs. filter (is_to m) front ++ cs) later ∙ (append-nil (filter (is_to m) front) ∙ kept_all m front (numbers_to fewest steady every hops 1 m held T done (omega arith)))))
      ∙ ap (λ cs. cs ++ front) (kept_all m (load_told steady hops held) (event_is (λ (c : ℕ × Change). c.0 ≤ m) 0 _ (λ c. omega arith)))))

  same_some : (T U : Entries) → Some T ≡ Some U → T ≡ U
  same_some T U e = cc

  -- what the changes so far add up to is the kept table
  pub sum_is : (done rest : List Elem) → AllByRecursion IsElem done → sum_of (changes_to (length done) (all_changes (done ++ rest))) ≡ Some (table_after fewest every hops held done)
  sum_is done rest p = ap (λ cs. sum_of (changes_in cs)) (changes_are done rest) ∙ run_sum fewest steady every hops held done p

  pub table_is : (done rest : List Elem) (T : Entries) → AllByRecursion IsElem done → sum_of (changes_to (length done) (all_changes (done ++ rest))) ≡ Some T → T ≡ table_after fewest every hops held done
  table_is done rest T p e = same_some T (table_after fewest every hops held done) (sym e ∙ sum_is done rest p)

  pub in_order : (elems : List Elem) → IsNonDecreasingBy (λ (c : ℕ × Change). c.0) (all_changes elems)
  in_order elems =
      let later = told_from fewest steady every hops 1 held (kept_at_load hops held) elems in
      let rises : Rises (all_changes elems) =
      rises_both 0 (load_told steady hops held) later (event_rises 0 _) (rises_from fewest steady every hops 1 held (kept_at_load hops held) elems)
      (event_is (λ (c : ℕ × Change). c.0 ≤ 0) 0 _ (λ c. omega arith))
      (all_weaker (λ (c : ℕ × Change). 1 ≤ c.0) (λ (c : ℕ × Change). 0 ≤ c.0) later (λ c le. omega arith) (numbers_from fewest steady every hops 1 held (kept_at_load hops held) elems))
      in
      λ i j d le lt. rises_at (all_changes elems) i j d rises le lt

  pub none_past : (elems : List Elem) → AllByRecursion (λ (c : ℕ × Change). c.0 ≤ length elems) (all_changes elems)
  none_past elems =
      all_both (λ (c : ℕ × Change). c.0 ≤ length elems) (load_told steady hops held) (told_from fewest steady every hops 1 held (kept_at_load hops held) elems)
      (event_is (λ (c : ℕ × Change). c.0 ≤ length elems) 0 _ (λ c. omega arith))
      (numbers_to fewest steady every hops 1 (length elems) held (kept_at_load hops held) elems (omega arith))

-- every kept table is in order
pub loaded_placed : (hops : List Address) (held : Candidates) → Placed (kept_at_load hops held)
loaded_placed hops held = snapshot_placed (entries_of hops held) []

-- ---- after a snapshot

least_last : (fewest : Bool) (every : ℕ) (hops : List Address) (n : ℕ) (held : Candidates) (T : Entries) (x : Elem) (elems : List Elem) → is_due every (n + length elems) ≡ true → LeastInBoth (entries_of hops (after_elems (after_elem held x) elems)) (table_from fewest every hops n held T (x ∷ elems))
unfolding table_from
least_last fewest every hops n held T x [] e = renewed_least (is_due every n) (entries_of hops (after_elem held x)) (moved_by fewest hops held T x) (ap (is_due every) (omega arith) ∙ e)
least_last fewest every hops n held T x (y ∷ elems) e = least_last fewest every hops (n + 1) (after_elem held x) (table_by fewest every hops n held T x) y elems (ap (is_due every) (omega arith) ∙ e)

pub least_after : (fewest : Bool) (every : ℕ) (hops : List Address) (held : Candidates) (done : List Elem) → has_snapshot every (length done) ≡ true → LeastInBoth (entries_of hops (after_elems held done)) (table_after fewest every hops held done)
unfolding table_from
least_after fewest every hops held [] e = snapshot_least (entries_of hops held) []
least_after fewest every hops held (x ∷ done) e = least_last fewest every hops 1 held (kept_at_load hops held) x done (ap (is_due every) (omega arith) ∙ e)

-- ---- after a repair

pub alike_after : (fewest : Bool) (every : ℕ) (hops : List Address) (held : Candidates) (done : List Elem) → AreCandidates held → AllByRecursion IsElem done → AlikeInBoth (table_after fewest every hops held done) (entries_of hops (after_elems held done))
alike_after fewest every hops held done a p = λ b is. sym (from_alike fewest every hops 1 held (kept_at_load hops held) done a p (loaded_placed hops held) (loaded_alike hops held) b is)

-- a repair, and a snapshot after it if there is one
by_fewest : (b : Bool) (R T L : Entries) (q : Prefix) → IsPrefix q → Placed T → AreEntries L → Alike (width q.family) (of_family q.family R) (of_family q.family L) → SameOutside q.bits (of_family q.family L) (of_family q.family T)
    → length (of_family q.family (snapshot_if b R (patch_of R q T))) ≤ length (of_family q.family L)
by_fewest false R T L q is t l a o = patched_least R T q is t L l a o
by_fewest true R T L q is t l a o = (snapshot_least R (patch_of R q T) q.family).1 (of_family q.family L) (family_table q.family L l) a

changed_is : (b : Bool) (p q : Prefix) → (if b then Some p else None) ≡ Some q → p ≡ q
changed_is true p q e = cc
changed_is false p q e = absurd cc

pub fewest_by : (every : ℕ) (hops : List Address) (n : ℕ) (held : Candidates) (T L : Entries) (elem : Elem) (q : Prefix) → IsElem elem → Placed T → changed_at held elem ≡ Some q → AreEntries L
    → Alike (width q.family) (of_family q.family (entries_of hops (after_elem held elem))) (of_family q.family L) → SameOutside q.bits (of_family q.family L) (of_family q.family T)
    → length (of_family q.family (kept_by every hops n held T elem)) ≤ length (of_family q.family L)
fewest_by every hops n held T L elem q e t c l a o =
    let R = entries_of hops (after_elem held elem) in
    let same : elem_prefix elem ≡ q = changed_is (is_other (chosen_for held (elem_prefix elem)) (chosen_for (after_elem held elem) (elem_prefix elem))) (elem_prefix elem) q c in
    let repaired : repaired_by hops held T elem ≡ patch_of R q T = ap (λ at. after_repair R at T) c in
    subst (λ (N : Entries). length (of_family q.family (snapshot_if (is_due every n) R N)) ≤ length (of_family q.family L)) (sym repaired)
    (by_fewest (is_due every n) R T L q (subst IsPrefix same (at_prefix elem e)) t l a o)

-- ---- outside the repair

pub none_due : (every n : ℕ) → has_snapshot every (n + 1) ≡ false → is_due every (n + 1) ≡ false
none_due every n none =
    let next : n + 1 ≡ suc n = omega arith in
    subst (λ m. is_due every m ≡ false) (sym next) (subst (λ m. has_snapshot every m ≡ false) next none)

changed_prefix : (held : Candidates) (elem : Elem) (q : Prefix) → IsElem elem → changed_at held elem ≡ Some q → IsPrefix q
changed_prefix held elem q e c = subst IsPrefix (changed_is (is_other (chosen_for held (elem_prefix elem)) (chosen_for (after_elem held elem) (elem_prefix elem))) (elem_prefix elem) q c) (at_prefix elem e)

patched_outside : (R T : Entries) (p : Prefix) → IsPrefix p → Placed T → entries_outside p (patch_of R p T) ≡ entries_outside p T
patched_outside R T p x t =
    let N = patch_of R p T in
    let n : Placed N = placed_patched R T p x t in
    same_entries prefix_key (entries_outside p N) (entries_outside p T) (sorted_filter prefix_cmp (is_out) N n.1) (sorted_filter prefix_cmp (is_out) T t.1) (all_filter (is_out) IsPrefix N n.0) (all_filter (is_out) IsPrefix T t.0)
    (λ q. lookup-filter prefix_key (is_out) q N n.1 ∙ (by_test q (is_within q p) (entry_hop_at q (region_aggregate R p T)) (entry_hop_at q T) (entry_hop_at q N) (hop_patched R T p q x t) ∙ sym (lookup-filter prefix_key (is_out) q T t.1)))
  where
    is_out : Prefix × ℕ → Bool
    is_out e = not (is_within e.0 p)

    none_left : (o : Option ℕ) → option_and_then (λ (v : ℕ). cond false (Some v) None) o ≡ None
    none_left None = refl
    none_left (Some h) = refl

    by_test : (q : Prefix) (b : Bool) (new old now : Option ℕ) → now ≡ cond b new old → option_and_then (λ (v : ℕ). cond (not b) (Some v) None) now ≡ option_and_then (λ (v : ℕ). cond (not b) (Some v) None) old
    by_test q true new old now e = none_left now ∙ sym (none_left old)
    by_test q false new old now e = ap (option_and_then (λ (v : ℕ). cond true (Some v) None)) e

repaired_outside : (R T : Entries) (at : Option Prefix) → ((q : Prefix) → at ≡ Some q → IsPrefix q) → Placed T → entries_besides at (after_repair R at T) ≡ entries_besides at T
repaired_outside R T None is t = refl
repaired_outside R T (Some q) is t = patched_outside R T q (is q refl) t

pub outside_by : (every : ℕ) (hops : List Address) (n : ℕ) (held : Candidates) (T : Entries) (elem : Elem) → IsElem elem → Placed T → is_due every n ≡ false → entries_besides (changed_at held elem) (kept_by every hops n held T elem) ≡ entries_besides (changed_at held elem) T
outside_by every hops n held T elem e t none =
    let R = entries_of hops (after_elem held elem) in
    ap (λ b. entries_besides (changed_at held elem) (snapshot_if b R (repaired_by hops held T elem))) none ∙ repaired_outside R T (changed_at held elem) (λ q c. changed_prefix held elem q e c) t

-- ---- one elementary event more

-- the hops of all routes have numbers along the way
along : (before elems : List Elem) → AreNumberedAlong (hops_after [] (before ++ elems)) (after_elems [] before) elems
along before elems = subst (λ es. AreNumberedAlong (hops_after [] (before ++ es)) (after_elems [] before) elems) (append-nil elems) (numbered_along before elems [])

-- the changes stay what they are as more hops get numbers
changes_stay : (fewest steady : Bool) (every : ℕ) (before elems more : List Elem) → run_changes fewest steady every (hops_after (hops_after [] (before ++ elems)) more) before elems ≡ run_changes fewest steady every (hops_after [] (before ++ elems)) before elems
changes_stay fewest steady every before elems more =
    let hops = hops_after [] (before ++ elems) in
    let held = after_elems [] before in
    ap (λ cs. cs ++ told_from fewest steady every (hops_after hops more) 1 held (kept_at_load (hops_after hops more) held) elems) (load_told_stays steady hops more held (numbered_later before elems))
    ∙ (ap (λ T. load_told steady hops held ++ told_from fewest steady every (hops_after hops more) 1 held T elems) (load_stays hops more held (numbered_later before elems))
    ∙ ap (λ cs. load_told steady hops held ++ cs) (told_from_stays fewest steady every hops more 1 held (kept_at_load hops held) elems (along before elems)))

-- the table does
table_stays : (fewest : Bool) (every : ℕ) (before elems more : List Elem) → kept_of fewest every (hops_after (hops_after [] (before ++ elems)) more) before elems ≡ kept_of fewest every (hops_after [] (before ++ elems)) before elems
table_stays fewest every before elems more =
    let hops = hops_after [] (before ++ elems) in
    let held = after_elems [] before in
    ap (λ T. table_from fewest every (hops_after hops more) 1 held T elems) (load_stays hops more held (numbered_later before elems))
    ∙ table_from_stays fewest false every hops more 1 held (kept_at_load hops held) elems (along before elems)

-- so does how many changes each event needs
moves_stay : (fewest : Bool) (every : ℕ) (before elems more : List Elem) → run_moves fewest every (hops_after (hops_after [] (before ++ elems)) more) before elems ≡ run_moves fewest every (hops_after [] (before ++ elems)) before elems
moves_stay false every before elems more = refl
moves_stay true every before elems more =
    let hops = hops_after [] (before ++ elems) in
    let held = after_elems [] before in
    ap (λ T. moves_from true every (hops_after hops more) 1 held T elems) (load_stays hops more held (numbered_later before elems))
    ∙ moves_from_stay true false every hops more 1 held (kept_at_load hops held) elems (along before elems)

-- what an event adds to it, where it is told
abbrev pub moves_if : Bool → List (ℕ × ℕ) → List (ℕ × ℕ)
moves_if false moves = []
moves_if true moves = moves

module _ (fewest : Bool) (every : ℕ) (before done : List Elem) (elem : Elem) (hops : List Address) (held : Candidates) (T : Entries) (n : ℕ)
    (h : hops ≡ hops_after [] (before ++ done)) (c : held ≡ after_elems (after_elems [] before) done) (t : T ≡ kept_of fewest every hops before done) (e : n ≡ length done) where
  abbrev now : List Address
  now = hops_after hops (elem ∷ [])

  abbrev first : Candidates
  first = after_elems [] before

  table_now : T ≡ kept_of fewest every now before done
  table_now = t ∙ (ap (λ hs. kept_of fewest every hs before done) h ∙ (sym (table_stays fewest every before done (elem ∷ [])) ∙ ap (λ hs. kept_of fewest every (hops_after hs (elem ∷ [])) before done) (sym h)))

  pub changes_grow : (steady : Bool) → run_changes fewest steady every hops before done ++ at_event (n + 1) (told_of fewest steady every now (n + 1) held T elem) ≡ run_changes fewest steady every now before (done ++ elem ∷ [])
  changes_grow steady =
      let changes : run_changes fewest steady every hops before done ≡ run_changes fewest steady every now before done =
      ap (λ hs. run_changes fewest steady every hs before done) h ∙ (sym (changes_stay fewest steady every before done (elem ∷ [])) ∙ ap (λ hs. run_changes fewest steady every (hops_after hs (elem ∷ [])) before done) (sym h))
      in
      let last : at_event (n + 1) (told_of fewest steady every now (n + 1) held T elem) ≡ at_event (length done + 1) (told_of fewest steady every now (length done + 1) (after_elems first done) (kept_of fewest every now before done) elem) =
      ap (λ m. at_event (m + 1) (told_of fewest steady every now (m + 1) held T elem)) e
      ∙ (ap (λ k. at_event (length done + 1) (told_of fewest steady every now (length done + 1) k T elem)) c ∙ ap (λ K. at_event (length done + 1) (told_of fewest steady every now (length done + 1) (after_elems first done) K elem)) table_now)
      in
      ap (λ cs. cs ++ at_event (n + 1) (told_of fewest steady every now (n + 1) held T elem)) changes
      ∙ (ap (λ cs. run_changes fewest steady every now before done ++ cs) last
      ∙ (append_assoc (load_told steady now first) (told_from fewest steady every now 1 first (kept_at_load now first) done) (at_event (length done + 1) (told_of fewest steady every now (length done + 1) (after_elems first done) (kept_of fewest every now before done) elem))
      ∙ ap (λ cs. load_told steady now first ++ cs) (sym (told_step fewest steady every now first (kept_at_load now first) done elem))))

  pub moves_grow : run_moves fewest every hops before done ++ moves_if fewest (moves_of fewest now (n + 1) held T elem) ≡ run_moves fewest every now before (done ++ elem ∷ [])
  moves_grow =
      let moves : run_moves fewest every hops before done ≡ run_moves fewest every now before done =
      ap (λ hs. run_moves fewest every hs before done) h ∙ (sym (moves_stay fewest every before done (elem ∷ [])) ∙ ap (λ hs. run_moves fewest every (hops_after hs (elem ∷ [])) before done) (sym h))
      in
      let last : moves_of fewest now (n + 1) held T elem ≡ moves_of fewest now (length done + 1) (after_elems first done) (kept_of fewest every now before done) elem =
      ap (λ m. moves_of fewest now (m + 1) held T elem) e ∙ (ap (λ k. moves_of fewest now (length done + 1) k T elem) c ∙ ap (λ K. moves_of fewest now (length done + 1) (after_elems first done) K elem) table_now)
      in
      ap (λ ms. ms ++ moves_if fewest (moves_of fewest now (n + 1) held T elem)) moves ∙ (ap (λ ms. run_moves fewest every now before done ++ moves_if fewest ms) last ∙ steps fewest)
    where
      steps : (b : Bool) → run_moves b every now before done ++ moves_if b (moves_of b now (length done + 1) (after_elems first done) (kept_of b every now before done) elem) ≡ run_moves b every now before (done ++ elem ∷ [])
      steps false = refl
      steps true = sym (moves_step true false every now first (kept_at_load now first) done elem)
