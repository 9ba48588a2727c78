-- What the rows say of how many changes each event needs, where the fewest are asked for.
use Rattle.std.proofs.Common.{◌≡◌, ℕ, ◌+◌, ◌≤◌, List, [], ◌∷◌, ◌++◌, Bool, true, false, cond, Option, Some, None, length, map, take, refl, sym, ap, subst, ◌∙◌, arith, append_assoc, append-nil, length-append}
use Rattle.std.specs.Prelude.{nat_eq, nat_le}
use Rattle.std.specs.List.{AllByRecursion, filter}
use Rattle.std.proofs.Math.Seq.{take-append_seam}
use Rattle.std.proofs.lemmas.Bool.{eq-eqb, ne_eqb}
use Rattle.std.proofs.lemmas.List.Sums.{fold-append}
use Rattle.std.proofs.lemmas.List.Sorted.{length_permutation}
use Rattle.table_model.specs.Address.{Address, Prefix, IsPrefix}
use Rattle.table_model.specs.Width.{width}
use Rattle.table_model.specs.Table.{Alike}
use Rattle.table_model.specs.Entries.{AlikeInBoth, Entries, of_family}
use Rattle.table_model.specs.Changes.{Change, after_changes, sum_of}
use Rattle.route_model.specs.Events.{Elem}
use Rattle.route_model.specs.Choice.{AreCandidates, Candidates, IsElem, after_elem, after_elems}
use Rattle.route_model.proofs.Elems.{candidates_stay}
use Rattle.kept_model.specs.Between.{between, place_of}
use Rattle.kept_model.proofs.Alike.{all_between, made_placed}
use Rattle.kept_model.proofs.Held.{Placed}
use Rattle.kept_model.specs.Steady.{in_steady_order}
use Rattle.kept_model.proofs.Goes.{same_changes, steady_placed}
use Rattle.moves_model.specs.Dist.{distance}
use Rattle.kept_model.specs.Feed.{at_event, changes_in, entries_of}
use Rattle.kept_model.specs.Kept.{changed_at, kept_at_load}
use Rattle.kept_model.proofs.FeedAlike.{loaded_alike}
use Rattle.kept_model.proofs.FeedSteps.{elems_more}
use Rattle.kept_model.specs.Told.{load_told, steady_if}
use Rattle.kept_model.proofs.Blocks.{after_more, in_at_event}
use Rattle.moves_model.specs.Moved.{moved_by, table_by, table_from}
use Rattle.moves_model.specs.Reported.{counted_at, first_changes, moves_from, moves_of_run, then_changes, told_from, told_of}
use Rattle.moves_model.proofs.Moved.{from_alike, from_placed, moved_alike, moved_placed}
use Rattle.moves_model.proofs.Reported.{moves_more, run_sum, table_step, told_count, told_more}
use Rattle.moves_model.proofs.Shortest.{counted, move_shortest}
use Rattle.fib_due.specs.Due.{Printed}
use Rattle.fib_due.specs.Keeps.{HasRow, IsFewestRow, event_changes, has_snapshot}
use Rattle.fib_due.proofs.Keeping.{Numbered, all_changes, all_weaker, changes_are, event_is, loaded_placed, none_due, numbers_from, numbers_to, table_after, table_is}

-- ---- the changes of one event among all

abbrev is_at : ℕ → ℕ × Change → Bool
is_at n c = nat_eq c.0 n

none_at : (n : ℕ) (cs : Numbered) → AllByRecursion (λ (c : ℕ × Change). c.0 ≡ n → ⊥) cs → filter (is_at n) cs ≡ []
none_at n [] a = refl
none_at n (c ∷ cs) a = ap (λ b. cond b (c ∷ filter (is_at n) cs) (filter (is_at n) cs)) (ne_eqb c.0 n a.0) ∙ none_at n cs a.1

all_at : (n : ℕ) (cs : List Change) → filter (is_at n) (at_event n cs) ≡ at_event n cs
all_at n [] = refl
all_at n (c ∷ cs) = ap (λ b. cond b ((n, c) ∷ filter (is_at n) (at_event n cs)) (filter (is_at n) (at_event n cs))) (eq-eqb n n refl) ∙ ap (λ ds. (n, c) ∷ ds) (all_at n cs)

filter_both : (n : ℕ) (xs ys : Numbered) → filter (is_at n) (xs ++ ys) ≡ filter (is_at n) xs ++ filter (is_at n) ys
filter_both n [] ys = refl
filter_both n (x ∷ xs) ys = by_test (is_at n x) (filter_both n xs ys)
  where
    by_test : (b : Bool) → filter (is_at n) (xs ++ ys) ≡ filter (is_at n) xs ++ filter (is_at n) ys → cond b (x ∷ filter (is_at n) (xs ++ ys)) (filter (is_at n) (xs ++ ys)) ≡ cond b (x ∷ filter (is_at n) xs) (filter (is_at n) xs) ++ filter (is_at n) ys
    by_test true e = ap (λ cs. x ∷ cs) e
    by_test false e = e

-- ---- a list in steady order or not

steady_count : (steady : Bool) (cs : List Change) → AllByRecursion IsPrefix (map place_of cs) → length (steady_if steady cs) ≡ length cs
steady_count false cs a = refl
steady_count true cs a = length_permutation cs (in_steady_order cs) (same_changes cs a)

steady_makes : (steady : Bool) (T U : Entries) → Placed T → Placed U → after_changes (steady_if steady (between T U)) T ≡ Some U
steady_makes false T U t u = made_placed T U t u
steady_makes true T U t u = steady_placed T U t u

take_front : {A : Type 0} (n : ℕ) (xs ys : List A) → n ≡ length xs → take n (xs ++ ys) ≡ xs
take_front n xs ys e = ap (λ k. take k (xs ++ ys)) e ∙ take-append_seam xs ys

-- ---- one event of a run

module _ (steady : Bool) (every : ℕ) (hops : List Address) (held : Candidates) (done rest : List Elem) (elem : Elem) (h : AreCandidates held) (d : AllByRecursion IsElem done) (e : IsElem elem) where
  abbrev now : Candidates
  now = after_elems held done

  abbrev before : Entries
  before = table_after true every hops held done

  abbrev moved : Entries
  moved = moved_by true hops now before elem

  abbrev all : List (ℕ × Change)
  all = all_changes true steady every hops held (done ++ elem ∷ rest)

  before_placed : Placed before
  before_placed = from_placed true every hops 1 held (kept_at_load hops held) done d (loaded_placed hops held)

  after_placed : Placed moved
  after_placed = moved_placed true hops now before elem e before_placed

  first_count : length (steady_if steady (first_changes true hops now before elem)) ≡ length (first_changes true hops now before elem)
  first_count = steady_count steady (between before moved) (all_between IsPrefix before moved before_placed.0 after_placed.0)

  -- those of the event
  told_at : event_changes (length done + 1) all ≡ told_of true steady every hops (length done + 1) now before elem
  unfolding told_from
  told_at =
      let n = length done + 1 in
      let K = kept_at_load hops held in
      let load = load_told steady hops held in
      let front = told_from true steady every hops 1 held K done in
      let cs = told_of true steady every hops n now before elem in
      let back = told_from true steady every hops (n + 1) (after_elem now elem) (table_by true every hops n now before elem) rest in
      let none_load : filter (is_at n) load ≡ [] = none_at n load (event_is (λ (c : ℕ × Change). c.0 ≡ n → ⊥) 0 _ (λ c x. omega (arith, x))) in
      let none_front : filter (is_at n) front ≡ [] =
      none_at n front (all_weaker (λ (c : ℕ × Change). c.0 ≤ length done) (λ (c : ℕ × Change). c.0 ≡ n → ⊥) front (λ c le x. omega (arith, le, x)) (numbers_to true steady every hops 1 (length done) held K done (omega arith)))
      in
      let none_back : filter (is_at n) back ≡ [] =
      none_at n back (all_weaker (λ (c : ℕ × Change). n + 1 ≤ c.0) (λ (c : ℕ × Change). c.0 ≡ n → ⊥) back (λ c le x. omega (arith, le, x)) (numbers_from true steady every hops (n + 1) (after_elem now elem) (table_by true every hops n now before elem) rest))
      in
      let kept : filter (is_at n) all ≡ at_event n cs =
      ap (λ xs. filter (is_at n) (load ++ xs)) (told_more true steady every hops held K done (elem ∷ rest))
      ∙ (filter_both n load (front ++ (at_event n cs ++ back))
      ∙ (ap (λ xs. xs ++ filter (is_at n) (front ++ (at_event n cs ++ back))) none_load
      ∙ (filter_both n front (at_event n cs ++ back)
      ∙ (ap (λ xs. xs ++ filter (is_at n) (at_event n cs ++ back)) none_front
      ∙ (filter_both n (at_event n cs) back ∙ (ap (λ xs. filter (is_at n) (at_event n cs) ++ xs) none_back ∙ (append-nil (filter (is_at n) (at_event n cs)) ∙ all_at n cs)))))))
      in
      ap changes_in kept ∙ in_at_event n cs

  -- the first so many of them lead to the nearest table
  reached : (n : ℕ) → n ≡ length (first_changes true hops now before elem) → sum_of (changes_in (all_changes true steady every hops held done) ++ take n (event_changes (length done + 1) all)) ≡ Some moved
  reached n is =
      let first = steady_if steady (between before moved) in
      ap (λ cs. sum_of (changes_in (all_changes true steady every hops held done) ++ cs)) (ap (take n) told_at ∙ take_front n first (steady_if steady (then_changes true every hops (length done + 1) now before elem)) (is ∙ sym first_count))
      ∙ (after_more (changes_in (all_changes true steady every hops held done)) first [] before (run_sum true steady every hops held done d) ∙ steady_makes steady before moved before_placed after_placed)

  -- which answers as the routes
  answers : AlikeInBoth (entries_of hops (after_elem now elem)) moved
  answers =
      let alike = from_alike true every hops 1 held (kept_at_load hops held) done h d (loaded_placed hops held) (loaded_alike hops held) in
      moved_alike true hops now before elem e before_placed (candidates_stay held done h d) alike

-- ---- the rows

-- A row is that of an event which changes a chosen hop, and tells how many changes its first step makes.
pub record IsRowOf (every : ℕ) (hops : List Address) (held : Candidates) (elems : List Elem) (row : ℕ × ℕ) : Type 0 where
  pub done : List Elem
  pub elem : Elem
  pub rest : List Elem
  pub prefix : Prefix
  pub place : elems ≡ done ++ elem ∷ rest
  pub number : row.0 ≡ length done + 1
  pub changed : changed_at (after_elems held done) elem ≡ Some prefix
  pub count : row.1 ≡ length (first_changes true hops (after_elems held done) (table_after true every hops held done) elem)

module _ (every : ℕ) (hops : List Address) (held : Candidates) (all : List Elem) where
  rows_from : (done elems : List Elem) (n : ℕ) (now : Candidates) (T : Entries) → all ≡ done ++ elems → n ≡ length done + 1 → now ≡ after_elems held done → T ≡ table_after true every hops held done → AllByRecursion (IsRowOf every hops held all) (moves_from true every hops n now T elems)
  unfolding moves_from
  rows_from done [] n now T e i h k = tt
  rows_from done (elem ∷ elems) n now T e i h k =
      by_change (changed_at now elem) refl
      (rows_from (done ++ elem ∷ []) elems (n + 1) (after_elem now elem) (table_by true every hops n now T elem) (e ∙ sym (append_assoc done (elem ∷ []) elems)) (omega (arith, i, length-append done (elem ∷ []))) (ap (λ c. after_elem c elem) h ∙ sym (elems_more held done (elem ∷ []))) next)
    where
      next : table_by true every hops n now T elem ≡ table_after true every hops held (done ++ elem ∷ [])
      next =
          ap (λ (m : ℕ). table_by true every hops m now T elem) i
          ∙ (ap (λ (c : Candidates). table_by true every hops (length done + 1) c T elem) h
          ∙ (ap (λ (X : Entries). table_by true every hops (length done + 1) (after_elems held done) X elem) k ∙ sym (table_step true false every hops held (kept_at_load hops held) done elem)))

      here : (p : Prefix) → changed_at now elem ≡ Some p → IsRowOf every hops held all (n, length (first_changes true hops now T elem))
      here p x = record {
        done = done;
        elem = elem;
        rest = elems;
        prefix = p;
        place = e;
        number = i;
        changed = ap (λ c. changed_at c elem) (sym h) ∙ x;
        count = ap (λ (c : Candidates). length (first_changes true hops c T elem)) h ∙ ap (λ (X : Entries). length (first_changes true hops (after_elems held done) X elem)) k;
      }

      by_change : (at : Option Prefix) → changed_at now elem ≡ at → AllByRecursion (IsRowOf every hops held all) (moves_from true every hops (n + 1) (after_elem now elem) (table_by true every hops n now T elem) elems)
          → AllByRecursion (IsRowOf every hops held all) (counted_at at n (first_changes true hops now T elem) ++ moves_from true every hops (n + 1) (after_elem now elem) (table_by true every hops n now T elem) elems)
      by_change None x more = more
      by_change (Some p) x more = (here p x, more)

-- each event that changes a chosen hop has one
pub has_row : (every : ℕ) (hops : List Address) (held : Candidates) (done rest : List Elem) (elem : Elem) (p : Prefix) → changed_at (after_elems held done) elem ≡ Some p → HasRow (length done + 1) (moves_of_run true every hops held (done ++ elem ∷ rest))
unfolding moves_from
has_row every hops held done rest elem p x =
    let n = length done + 1 in
    let now = after_elems held done in
    let T = table_after true every hops held done in
    let cs = first_changes true hops now T elem in
    let later = moves_from true every hops (n + 1) (after_elem now elem) (table_by true every hops n now T elem) rest in (
      moves_from true every hops 1 held (kept_at_load hops held) done,
      later,
      length cs,
      moves_more true false every hops held (kept_at_load hops held) done (elem ∷ rest) ∙ ap (λ ms. moves_from true every hops 1 held (kept_at_load hops held) done ++ (ms ++ later)) (counted (changed_at now elem) n cs p x),
    )

-- ---- what is printed

front_of : (xs ys : List Elem) → AllByRecursion IsElem (xs ++ ys) → AllByRecursion IsElem xs
front_of [] ys a = tt
front_of (x ∷ xs) ys a = (a.0, front_of xs ys a.1)

one_of : (xs : List Elem) (x : Elem) (ys : List Elem) → AllByRecursion IsElem (xs ++ x ∷ ys) → IsElem x
one_of [] x ys a = a.0
one_of (y ∷ xs) x ys a = one_of xs x ys a.1

module _ (p : Printed) (steady : Bool) (are : p.told.changes ≡ all_changes true steady p.limits.every p.hops (after_elems [] p.load) p.updates) (l : AreCandidates (after_elems [] p.load)) (u : AllByRecursion IsElem p.updates) where
  row_says : (row : ℕ × ℕ) → IsRowOf p.limits.every p.hops (after_elems [] p.load) p.updates row → IsFewestRow p row
  row_says row r =
      let every = p.limits.every in
      let hops = p.hops in
      let held = after_elems [] p.load in
      let now = after_elems held r.done in
      let T = table_after true every hops held r.done in
      let M = moved_by true hops now T r.elem in
      let behind = subst (AllByRecursion IsElem) r.place u in
      let d = front_of r.done (r.elem ∷ r.rest) behind in
      let e = one_of r.done r.elem r.rest behind in
      let same : p.told.changes ≡ all_changes true steady every hops held (r.done ++ r.elem ∷ r.rest) = are ∙ ap (all_changes true steady every hops held) r.place in
      let t = before_placed steady every hops held r.done r.rest r.elem l d e in
      let routes : entries_of hops (after_elem now r.elem) ≡ entries_of hops (after_elems held (r.done ++ r.elem ∷ [])) = ap (entries_of hops) (sym (fold-append after_elem held r.done (r.elem ∷ []))) in
      let shortest = move_shortest (entries_of hops (after_elem now r.elem)) (changed_at now r.elem) T r.prefix t r.changed in
      record {
        done = r.done;
        elem = r.elem;
        rest = r.rest;
        prefix = r.prefix;
        place = r.place;
        number = r.number;
        changed = r.changed;
        table = M;
        reached = ap (λ cs. sum_of (changes_in (filter (λ (c : ℕ × Change). nat_le c.0 (length r.done)) cs) ++ take row.1 (event_changes (length r.done + 1) cs))) same
            ∙ (ap (λ cs. sum_of (changes_in cs ++ take row.1 (event_changes (length r.done + 1) (all_changes true steady every hops held (r.done ++ r.elem ∷ r.rest))))) (changes_are true steady every hops held r.done (r.elem ∷ r.rest))
            ∙ reached steady every hops held r.done r.rest r.elem l d e row.1 r.count);
        alike = subst (λ R. AlikeInBoth R M) routes (answers steady every hops held r.done r.rest r.elem l d e);
        all = λ none. ap (λ cs. length (event_changes row.0 cs)) same
            ∙ (ap (λ n. length (event_changes n (all_changes true steady every hops held (r.done ++ r.elem ∷ r.rest)))) r.number
            ∙ (ap length (told_at steady every hops held r.done r.rest r.elem l d e)
            ∙ (told_count true steady every hops (length r.done + 1) now T r.elem e t (none_due every (length r.done) (subst (λ n. has_snapshot every n ≡ false) r.number none)) ∙ sym r.count)));
        fewest = λ X U x a.
            let is : X ≡ T = table_is true steady every hops held r.done (r.elem ∷ r.rest) X d (subst (λ cs. sum_of (changes_in (filter (λ (c : ℕ × Change). nat_le c.0 (length r.done)) cs)) ≡ Some X) same x) in
            let least = shortest.fewest U (subst (λ R. Alike (width r.prefix.family) (of_family r.prefix.family R) U) (sym routes) a) in
            subst (λ Y. row.1 ≤ distance (of_family r.prefix.family Y) U) (sym is) (subst (λ n. n ≤ distance (of_family r.prefix.family T) U) (sym r.count) least);
      }

  all_say : (rows : List (ℕ × ℕ)) → AllByRecursion (IsRowOf p.limits.every p.hops (after_elems [] p.load) p.updates) rows → AllByRecursion (IsFewestRow p) rows
  all_say [] a = tt
  all_say (row ∷ rows) a = (row_says row a.0, all_say rows a.1)

  pub rows_say : p.told.moves ≡ moves_of_run true p.limits.every p.hops (after_elems [] p.load) p.updates → AllByRecursion (IsFewestRow p) p.told.moves
  unfolding table_from
  rows_say m =
      let held = after_elems [] p.load in
      subst (AllByRecursion (IsFewestRow p)) (sym m) (all_say (moves_of_run true p.limits.every p.hops held p.updates) (rows_from p.limits.every p.hops held p.updates [] p.updates 1 held (kept_at_load p.hops held) refl refl refl refl))
